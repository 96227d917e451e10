use Rattle.std.proofs.Common.{◌∙◌, ◌+◌, ◌≡◌, ◌∷◌, [], None, ap, arith, length, map}
use Rattle.std.proofs.lemmas.List.{length-append}
use Rattle.std.specs.Option.{option_map}
use Rattle.relay_keeping.specs.Noted.{noted_at, noted_room}
use Rattle.relay_keeping.proofs.Noting.{place_added}
use Rattle.relay_keeping.proofs.kept_rooms.KeptRooms.admit_at.Goals as goal

pub loop-self-preserved : goal.loop-self-preserved
loop-self-preserved c =
    let items = c.in_ok-push.ensures.items in
    let grown : length c.push.new.self.items ≡ length c.loop-self.self.rooms.items + 1 =
    ap length items ∙ length-append c.loop-self.self.rooms.items (None ∷ []) in
    record {
      same = record {
        rooms = λ i. ap (λ rooms. noted_at (map (option_map noted_room) rooms) i) items
            ∙ place_added c.loop-self.self.rooms.items i ∙ c.loop-self.invariant.same.rooms i;
        floor = c.loop-self.invariant.same.floor;
      };
      longer = omega (arith, c.loop-self.invariant.longer, grown);
    }

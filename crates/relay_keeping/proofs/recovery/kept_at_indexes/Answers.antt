use Rattle.std.proofs.Common.{◌≡◌, ◌∙◌, ◌+◌, ℕ, inl, inr, List, [], ◌∷◌, ◌++◌, None, Some, Option}
use Rattle.std.proofs.Common.{arith, ap, length, length-append, map, slice_get, sym}
use Rattle.std.proofs.Common.{if◌then◌else◌, refl}
use Rattle.std.proofs.lemmas.Bool.{cases_lt}
use Rattle.std.proofs.lemmas.Option.{slice_get_within}
use Rattle.std.specs.Option.{option_map}
use Rattle.relay_hub.specs.State.{RoomSessions}
use Rattle.relay_hub.specs.Summary.{Summary}
use Rattle.relay_hub.proofs.Rooms.{by_name}
use Rattle.relay_keeping.specs.Begun.{client_named, noted_client}
use Rattle.relay_keeping.specs.Noted.{noted_at, noted_room}
use Rattle.relay_keeping.proofs.Gathering.{none_found, room_found}
use Rattle.relay_keeping.proofs.Noting.{noted_end, noted_front}
use Rattle.relay_keeping.proofs.Trailing.{past}
use Rattle.relay_keeping.proofs.recovery.kept_at_indexes.Goals as goal

pub returns-in_default : goal.returns-in_default
returns-in_default c = λ once.
    let rooms = c.args.hub.now.rooms in
    let so = c.loop-index.invariant in
    let all = past rooms c.loop-index.index (none_found _ c.in_default.ensures) in
    record {
      rooms_at = λ i room at.
          let within = slice_get_within rooms i room at in
          so.rooms once i room (omega (arith, all, within)) at;
      count = omega (arith, so.count, so.within, all);
    }

pub loop-index-preserved : goal.loop-index-preserved
loop-index-preserved c =
    let rooms = c.args.hub.now.rooms in
    let index = c.loop-index.index in
    let so = c.loop-index.invariant in
    let before = c.loop-index.rooms.items in
    let last = c.take_room.result in
    let items = c.in_ok-push.ensures.items in
    let found = room_found _ _ c.in-Some.ensures in
    let name : c.in-Some.room.name.now ≡ found.0.0 = ap (λ (s : Summary). s.name) found.2 in
    let clients = c.args.clients.now.entries in
    record {
      count = ap length items ∙ length-append before (last ∷ []) ∙ ap (λ n. n + 1) so.count;
      within = (let below = slice_get_within rooms index found.0 found.1 in omega (arith, below));
      rooms = λ once i room below at.
          ap (λ kept. noted_at (map (option_map noted_room) kept) i) items
          ∙ elim (cases_lt i index) [
            | inl earlier ↦
                noted_front before last i (omega (arith, earlier, so.count))
                ∙ so.rooms once i room earlier at
            | inr later ↦
                let same : i ≡ index = omega (arith, below, later) in
                let place : i ≡ length before = omega (arith, same, so.count) in
                let both : ◌≡◌ {A = Option (List ℕ × RoomSessions)} (Some room) (Some found.0) =
                sym at ∙ ap (slice_get rooms) same ∙ found.1 in
                let one : ◌≡◌ {A = List ℕ × RoomSessions} room found.0 = cc both in
                let named = name ∙ sym (ap (λ (r : List ℕ × RoomSessions). r.0) one) in
                let left = c.loop-index.clients.entries in
                ap (noted_at (map (option_map noted_room) (before ++ last ∷ []))) place
                ∙ noted_end before last ∙ c.take_room.ensures.room
                ∙ (λ j. noted_client (named j) (client_named (named j) left))
                ∙ ap (noted_client room.0) (so.left once i room later at)
          ];
      left = λ once i room above at.
          let left = client_named room.0 c.loop-index.clients.entries in
          c.take_room.ensures.others room.0
          ∙ by_name (λ b. (if b then None else left) ≡ left) c.in-Some.room.name.now room.0
          (λ same.
          let index_is = once index i found.0 room found.1 at (sym name ∙ same) in
          absurd (omega (arith, index_is, above)))
          (λ differ. refl)
          ∙ so.left once i room (omega (arith, above)) at;
    }

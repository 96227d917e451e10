use Rattle.std.proofs.Common.{◌∙◌, ◌<◌, ap, length, subst, sym}
use Rattle.std.specs.List.{AllByRecursion}
use Rattle.relay_keeping.specs.News.{noted_by}
use Rattle.relay_keeping.specs.Noted.{noted_at, noted_in}
use Rattle.relay_keeping.specs.declared.news.News.{News}
use Rattle.relay_keeping.proofs.Noting.{all_but_last, noted_last}
use Rattle.relay_keeping.proofs.kept_rooms.KeptRooms.note.Goals as goal

pub loop-new-preserved : goal.loop-new-preserved
loop-new-preserved c = record {
  rooms = λ have.
      let so = c.loop-new.invariant.rooms have in
      let items = c.in-Some.ensures.items in
      let rest = c.pop.new.self.items in
      let new = c.in-Some.new in
      let count = length c.loop-new.self.rooms.items in
      let split = all_but_last (λ (new : News). new.index < count) rest new
      (subst (AllByRecursion (λ (new : News). new.index < count)) items so.0) in (
        subst (λ n. AllByRecursion (λ (new : News). new.index < n) rest)
            (sym c.note_room.ensures.places) split.0,
        λ index.
            let was = noted_at (noted_in c.loop-new.self) index in
            ap (noted_by index rest) (c.note_room.ensures.room split.1 index)
            ∙ sym (noted_last index rest new was)
            ∙ ap (λ news. noted_by index news was) (sym items) ∙ so.1 index,
      );
  floor = c.note_room.ensures.floor ∙ c.loop-new.invariant.floor;
}

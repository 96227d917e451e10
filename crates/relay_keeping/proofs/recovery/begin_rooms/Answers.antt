use Rattle.std.proofs.Common.{◌≡◌, ◌∙◌, ◌≤◌, Some, length, slice_get, subst, sym}
use Rattle.relay_keeping.specs.Begun.{BeginsRoomOf, HasPlace}
use Rattle.relay_keeping.proofs.AllBegun.{has_place, one_begun}
use Rattle.relay_keeping.proofs.Calls.{called_then}
use Rattle.relay_keeping.proofs.recovery.begin_rooms.Goals as goal

pub loop-index-preserved : goal.loop-index-preserved
loop-index-preserved c = record {
  called = called_then c.loop-index.invariant.called c.begin_room.ensures.called;
  begun = λ none few.
      let clients = c.args.clients.now.rooms.entries in
      let i = c.loop-index.index in
      let name = c.in-Some.name.now in
      let client = c.in-Some.client.now in
      let hub = c.loop-index.hub in
      let so = c.loop-index.invariant.begun none few in
      let at : slice_get clients i ≡ Some (name, client) = sym c.in-Some.ensures.entry in
      let distinct = c.len-index-end.ensures.unique in
      let bytes = c.as_str.ensures.value in
      let room : length clients ≤ hub.config.rooms =
      subst (λ b. length clients ≤ b.rooms) (sym so.0) few in
      let place =
      subst (λ n. HasPlace n hub) (sym bytes)
      (has_place clients i name client hub distinct at so.1 room) in
      let begins = c.in_ok-begin_room.ensures.begun place in (
        begins.adds.config ∙ so.0,
        one_begun clients i name client hub distinct at so.1 c.begin_room.new.hub
            (subst (λ n. BeginsRoomOf client n hub c.begin_room.new.hub) bytes begins),
      );
}

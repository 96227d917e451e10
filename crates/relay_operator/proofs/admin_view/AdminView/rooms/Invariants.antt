-- The rooms so far are written, and the others would make the list whole.
use Rattle.std.proofs.Common.{◌≡◌, [], drop}
use Rattle.relay_admin.specs.Rooms.{begun}
use Rattle.relay_operator.specs.Numbers.{rooms_seen}
use Rattle.relay_operator.specs.Rows.{with_rooms}
use Rattle.relay_operator.proofs.admin_view.AdminView.rooms.Given as goal

abbrev pub invariant-loop-index : goal.invariant-loop-index
invariant-loop-index l = record {
  before : l.out.before ≡ [];
  rows : with_rooms l.self 0 (rooms_seen l.self.hub.now) begun
      ≡ with_rooms l.self l.index (drop l.index (rooms_seen l.self.hub.now)) l.out.tokens;
}

-- The totals of the rooms so far.
use Rattle.std.proofs.Common.{◌≡◌, take}
use Rattle.relay_operator.specs.Numbers.{rooms_seen, totals_of}
use Rattle.relay_operator.proofs.admin_view.AdminView.totals.Given as goal

abbrev pub invariant-loop-index : goal.invariant-loop-index
invariant-loop-index l = l.totals ≡ totals_of (take l.index (rooms_seen l.self.hub.now))

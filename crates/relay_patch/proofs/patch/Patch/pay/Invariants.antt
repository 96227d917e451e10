use Rattle.std.proofs.Common.{◌≡◌, drop}
use Rattle.relay_tree.specs.Budget.{paid}
use Rattle.relay_patch.specs.Weight.{ops_weight}
use Rattle.relay_patch.proofs.patch.Patch.pay.Given as goal

abbrev pub invariant-loop-op : goal.invariant-loop-op
invariant-loop-op l =
    paid (ops_weight (drop l.op-index l.op-items)) l.left ≡ paid (ops_weight l.self) l.fn.budget

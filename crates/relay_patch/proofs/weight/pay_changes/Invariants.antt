use Rattle.std.proofs.Common.{◌≡◌, drop}
use Rattle.relay_tree.specs.Budget.{paid}
use Rattle.relay_patch.specs.Weight.{changes_weight}
use Rattle.relay_patch.proofs.weight.pay_changes.Given as goal

abbrev pub invariant-loop-change : goal.invariant-loop-change
invariant-loop-change l =
    paid (changes_weight (drop l.change-index l.changes)) l.left
    ≡ paid (changes_weight l.changes) l.fn.budget

use Rattle.std.proofs.Common.{◌≡◌, length}
use Rattle.relay_apply.specs.Undo.{taken_back}
use Rattle.relay_apply.proofs.undo.take_back.Given as goal

abbrev pub invariant-loop-last : goal.invariant-loop-last
invariant-loop-last l =
    taken_back l.tree l.kept.items ≡ taken_back l.initial.tree l.initial.kept.items

abbrev pub decreases-loop-last : goal.decreases-loop-last
decreases-loop-last l = length l.kept.items

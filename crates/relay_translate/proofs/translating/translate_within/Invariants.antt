use Rattle.std.proofs.Common.{◌≡◌, ◌++◌, map, drop}
use Rattle.relay_tree.specs.Budget.{paid}
use Rattle.relay_patch.specs.Weight.{ops_weight}
use Rattle.relay_translate.specs.Translate.{local, local_from}
use Rattle.relay_translate.proofs.translating.translate_within.Given as goal

abbrev pub invariant-loop-number : goal.invariant-loop-number
invariant-loop-number l =
    let changes = map (λ c. c.now) l.changes in
    let further = local_from l.number changes l.now (drop l.number l.slot-items) in
    (l.ops.items ++ further ≡ local changes l.now l.view)
    × (paid (ops_weight further) l.left
    ≡ paid (ops_weight (local changes l.now l.view)) l.fn.budget)

use Rattle.std.proofs.Common.{◌≡◌, ◌++◌, map, drop, flat_map}
use Rattle.relay_tree.specs.Budget.{paid}
use Rattle.relay_patch.specs.Weight.{ops_weight}
use Rattle.relay_translate.specs.Translate.{slot_op}
use Rattle.relay_translate.proofs.translating.push_inside.Given as goal

abbrev pub invariant-loop-change : goal.invariant-loop-change
invariant-loop-change l =
    let op = slot_op l.site.number (record { pointer = l.site.pointer.now; kind = l.kind }) in
    let further = flat_map op (map (λ c. c.now) (drop l.change-index l.changes)) in
    let all = flat_map op (map (λ c. c.now) l.changes) in
    (l.ops.items ++ further ≡ l.fn.ops.items ++ all)
    × (paid (ops_weight further) l.left ≡ paid (ops_weight all) l.fn.budget)

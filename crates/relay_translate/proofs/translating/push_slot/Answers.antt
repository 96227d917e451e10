use Rattle.std.proofs.Common.{◌≡◌, ◌++◌, List, IfOk, IsSome, sym, subst, ◌∙◌}
use Rattle.relay_tree.specs.Budget.{paid}
use Rattle.relay_patch.specs.Weight.{ops_weight}
use Rattle.relay_patch.specs.declared.op.Op.{Op}
use Rattle.relay_translate.proofs.Lent.{kept_slot}
use Rattle.relay_translate.proofs.translating.push_slot.Goals as goal

pub returns-else-is_reset-clause-left : goal.returns-else-is_reset-clause-left
returns-else-is_reset-clause-left c =
    let is = kept_slot c.args.number c.args.slot.now c.args.changes.now c.args.now.now
    (sym c.is_reset.ensures ∙ c.if-is_reset.false) in
    subst (λ (ops : List Op). IfOk c.push_inside.result
    (λ left. left ≡ paid (ops_weight ops) c.args.budget)) (sym is) c.push_inside.ensures.left

pub returns-else-is_reset-clause-pushed : goal.returns-else-is_reset-clause-pushed
returns-else-is_reset-clause-pushed c =
    let is = kept_slot c.args.number c.args.slot.now c.args.changes.now c.args.now.now
    (sym c.is_reset.ensures ∙ c.if-is_reset.false) in
    subst (λ (ops : List Op). IfOk c.push_inside.result
    (λ left. IsSome left → c.push_inside.new.ops.items ≡ c.args.ops.now.items ++ ops))
    (sym is) c.push_inside.ensures.pushed

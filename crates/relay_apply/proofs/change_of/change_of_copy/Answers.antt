use Rattle.std.proofs.Common.{sym, ap, ◌∙◌, ◌∷◌, []}
use Rattle.relay_apply.proofs.ChangeOf.{copy_passes, copy_refuses, copy-change}
use Rattle.std.proofs.Common.{◌+◌, refl}
use Rattle.relay_pointer.specs.Weight.{path_weight}
use Rattle.relay_patch.specs.declared.op.Op.TheVariants.{Copy}
use Rattle.relay_patch.specs.declared.change.Change.TheVariants as change
use Rattle.relay_apply.specs.Steps.{insert_place}
use Rattle.relay_apply.proofs.Overspent.{refused_within, unpaid_within}
use Rattle.relay_apply.proofs.change_of.change_of_copy.Goals as goal
use Rattle.relay_tree.proofs.Outcomes.{err_and}

pub returns-in_err-insert_target-clause-err : goal.returns-in_err-insert_target-clause-err
returns-in_err-insert_target-clause-err c =
    let there = rw c.tokens.ensures at c.in_ok-value.ensures.ok in
    let insert_target = rw c.tokens-2.ensures at c.in_err-insert_target.ensures.insert_target in
    err_and c.from_residual-in_err-insert_target.result
    c.from_residual-in_err-insert_target.ensures.1 (λ e is.
    rw is (refused_within c.args.tree.now (Copy c.args.from.now c.args.path.now) c.args.left
    c.in_err-insert_target.field-0.0
    (copy_refuses c.args.from.now c.args.path.now c.args.tree.now c.in_ok-value.value.now
    c.in_err-insert_target.field-0.0 there (sym insert_target))
    c.in_err-insert_target.ensures.other))

pub returns-in_err-duplication-clause-err : goal.returns-in_err-duplication-clause-err
returns-in_err-duplication-clause-err c =
    let there = rw c.tokens.ensures at c.in_ok-value.ensures.ok in
    let insert_target = rw c.tokens-2.ensures at c.in_ok-insert_target.ensures.insert_target in
    let s = c.in_ok-insert_target.insert_target in
    let d = c.args.tree.now in
    let from = c.args.from.now in
    let path = c.args.path.now in
    let v = c.in_ok-value.value.now in
    let to = insert_place s path in
    err_and c.from_residual-in_err-duplication.result c.from_residual-in_err-duplication.ensures.1
    (λ e is.
    rw is (unpaid_within d (Copy from path) c.args.left c.in_err-duplication.field-0.0
    (change.Copy from to v) v (path_weight from + path_weight to.path)
    (copy_passes from path d v s there (sym insert_target))
    (copy-change from path d v s there (sym insert_target))
    refl c.in_err-duplication.ensures.unpaid))

pub returns-clause-ok : goal.returns-clause-ok
returns-clause-ok c =
    let there = rw c.tokens.ensures at c.in_ok-value.ensures.ok in
    let insert_target = rw c.tokens-2.ensures at c.in_ok-insert_target.ensures.insert_target in
    copy_passes c.args.from.now c.args.path.now c.args.tree.now c.in_ok-value.value.now
    c.in_ok-insert_target.insert_target there (sym insert_target)

pub returns-clause-changes : goal.returns-clause-changes
returns-clause-changes c =
    let there = rw c.tokens.ensures at c.in_ok-value.ensures.ok in
    let insert_target = rw c.tokens-2.ensures at c.in_ok-insert_target.ensures.insert_target in
    ap (λ x. x ∷ []) c.in_ok-duplication.ensures.ok
    ∙ copy-change c.args.from.now c.args.path.now c.args.tree.now c.in_ok-value.value.now
    c.in_ok-insert_target.insert_target there (sym insert_target)

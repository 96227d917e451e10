use Rattle.std.proofs.Common.{sym, ap, ◌∙◌, ◌∷◌, []}
use Rattle.relay_apply.proofs.Targets.{insert_passes, insert_refuses, insertion-change}
use Rattle.relay_pointer.specs.Weight.{path_weight}
use Rattle.relay_patch.specs.declared.op.Op.TheVariants.{Add}
use Rattle.relay_apply.specs.Steps.{insert_place, insertion}
use Rattle.relay_apply.proofs.Overspent.{refused_within, unpaid_within, insertion_weight}
use Rattle.relay_apply.proofs.change_of.change_of_add.Goals as goal
use Rattle.relay_tree.proofs.Outcomes.{err_and}

pub returns-in_err-insert_target-clause-err : goal.returns-in_err-insert_target-clause-err
returns-in_err-insert_target-clause-err c =
    let insert_target = rw c.tokens.ensures at c.in_err-insert_target.ensures.insert_target in
    err_and c.from_residual.result c.from_residual.ensures.1 (λ e is.
    rw is (refused_within c.args.tree.now (Add c.args.path.now c.args.value.now) c.args.left
    c.in_err-insert_target.field-0.0
    (insert_refuses c.args.path.now c.args.tree.now c.in_err-insert_target.field-0.0
    (sym insert_target) c.args.value.now) c.in_err-insert_target.ensures.other))

pub returns-in_err-insertion-clause-err : goal.returns-in_err-insertion-clause-err
returns-in_err-insertion-clause-err c =
    let insert_target = rw c.tokens.ensures at c.in_ok-insert_target.ensures.insert_target in
    let s = c.in_ok-insert_target.insert_target in
    let d = c.args.tree.now in
    let path = c.args.path.now in
    let v = c.args.value.now in
    let place = (insert_place s path).path in
    err_and c.from_residual-in_err-insertion.result c.from_residual-in_err-insertion.ensures.1
    (λ e is.
    rw is (unpaid_within d (Add path v) c.args.left c.in_err-insertion.field-0.0
    (insertion s place v) v (path_weight place) (insert_passes path d s (sym insert_target) v)
    (ap (λ x. x ∷ []) (insertion-change path d s v (sym insert_target)))
    (insertion_weight s place v) c.in_err-insertion.ensures.unpaid))

pub returns-clause-ok : goal.returns-clause-ok
returns-clause-ok c =
    insert_passes c.args.path.now c.args.tree.now c.in_ok-insert_target.insert_target
    (sym (rw c.tokens.ensures at c.in_ok-insert_target.ensures.insert_target)) c.args.value.now

pub returns-clause-changes : goal.returns-clause-changes
returns-clause-changes c =
    ap (λ x. x ∷ []) (c.in_ok-insertion.ensures.ok
    ∙ insertion-change c.args.path.now c.args.tree.now c.in_ok-insert_target.insert_target
    c.args.value.now (sym (rw c.tokens.ensures at c.in_ok-insert_target.ensures.insert_target)))

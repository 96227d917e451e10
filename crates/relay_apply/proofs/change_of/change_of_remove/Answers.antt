use Rattle.std.proofs.Common.{sym, ap, ◌∙◌, ◌∷◌, []}
use Rattle.relay_apply.proofs.Targets.{removal_passes, removal_refuses, removal-change}
use Rattle.relay_patch.proofs.Refusals.{refused_by, starved_by}
use Rattle.relay_apply.proofs.change_of.change_of_remove.Goals as goal
use Rattle.relay_tree.proofs.Outcomes.{err_and}

pub returns-in_err-item-clause-err : goal.returns-in_err-item-clause-err
returns-in_err-item-clause-err c =
    let item = rw c.tokens.ensures at c.in_err-item.ensures.item in
    err_and c.from_residual.result c.from_residual.ensures.1 (λ e is.
    rw is (refused_by _ c.in_err-item.field-0.0
    (removal_refuses c.args.path.now c.args.tree.now c.in_err-item.field-0.0 (sym item))
    c.in_err-item.ensures.other))

pub returns-in_err-removal-clause-err : goal.returns-in_err-removal-clause-err
returns-in_err-removal-clause-err c =
    let item = rw c.tokens.ensures at c.in_ok-item.ensures.item in
    err_and c.from_residual-in_err-removal.result c.from_residual-in_err-removal.ensures.1 (λ e is.
    starved_by _ e (removal_passes c.args.path.now c.args.tree.now c.in_ok-item.item
    (sym item)) is)

pub returns-clause-ok : goal.returns-clause-ok
returns-clause-ok c =
    removal_passes c.args.path.now c.args.tree.now c.in_ok-item.item
    (sym (rw c.tokens.ensures at c.in_ok-item.ensures.item))

pub returns-clause-changes : goal.returns-clause-changes
returns-clause-changes c =
    ap (λ x. x ∷ []) (c.in_ok-removal.ensures
    ∙ removal-change c.args.path.now c.args.tree.now c.in_ok-item.item
    (sym (rw c.tokens.ensures at c.in_ok-item.ensures.item)))

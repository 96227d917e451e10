use Rattle.relay_patch.proofs.Exchanges.{replaced_fails, replaced_passes}
use Rattle.std.proofs.Common.{refl, ◌∷◌, []}
use Rattle.relay_pointer.specs.Weight.{path_weight}
use Rattle.relay_patch.specs.declared.op.Op.TheVariants.{Replace}
use Rattle.relay_patch.specs.declared.change.Change.TheVariants as change
use Rattle.relay_apply.proofs.Overspent.{refused_within, unpaid_within}
use Rattle.relay_apply.proofs.change_of.change_of_replace.Goals as goal
use Rattle.relay_tree.proofs.Outcomes.{err_and}

pub returns-in_err-walk-clause-err : goal.returns-in_err-walk-clause-err
returns-in_err-walk-clause-err c =
    err_and c.from_residual.result c.from_residual.ensures.1 (λ e is.
    rw is (refused_within c.args.tree.now (Replace c.args.path.now c.args.value.now) c.args.left
    c.in_err-walk.field-0.0
    (replaced_fails c.args.path.now c.args.value.now c.args.tree.now
    c.in_err-walk.field-0.0 (rw c.tokens.ensures at c.in_err-walk.ensures.err))
    c.in_err-walk.ensures.other))

pub returns-in_err-replacement-clause-err : goal.returns-in_err-replacement-clause-err
returns-in_err-replacement-clause-err c =
    err_and c.from_residual-in_err-replacement.result c.from_residual-in_err-replacement.ensures.1
    (λ e is.
    rw is (unpaid_within c.args.tree.now (Replace c.args.path.now c.args.value.now) c.args.left
    c.in_err-replacement.field-0.0 (change.Set c.args.path.now c.args.value.now)
    c.args.value.now (path_weight c.args.path.now)
    (replaced_passes c.args.path.now c.args.value.now c.args.tree.now
    c.in_ok-walk.field-0.now (rw c.tokens.ensures at c.in_ok-walk.ensures.ok))
    refl refl c.in_err-replacement.ensures.unpaid))

pub returns-clause-ok : goal.returns-clause-ok
returns-clause-ok c =
    replaced_passes c.args.path.now c.args.value.now c.args.tree.now c.in_ok-walk.field-0.now
    (rw c.tokens.ensures at c.in_ok-walk.ensures.ok)

use Rattle.std.proofs.Common.{sym, ◌∙◌}
use Rattle.relay_patch.specs.declared.fault.Cause.TheVariants.{Missing}
use Rattle.relay_apply.proofs.Drops.{steps_behind, steps_beside}
use Rattle.relay_patch.proofs.Refusals.{if_found, if_missing}
use Rattle.relay_apply.proofs.moving.step_after_removal.Goals as goal
use Rattle.relay_tree.proofs.Outcomes.{if_ok, if_err}

pub returns-in-Some-clause-ok : goal.returns-in-Some-clause-ok
returns-in-Some-clause-ok c =
    if_found c.ok_or.result c.item.result Missing _ c.ok_or.ensures.value c.item.ensures
    (λ part h rest dropped.
    steps_behind c.args.container.now c.args.gone.now c.args.token.now c.in-Some.index rest
    (sym c.in-Some.ensures) dropped ∙ h)

pub returns-in-Some-clause-err : goal.returns-in-Some-clause-err
returns-in-Some-clause-err c =
    if_missing c.ok_or.result c.item.result Missing _ c.ok_or.ensures.value c.item.ensures
    (λ cause h rest dropped.
    steps_behind c.args.container.now c.args.gone.now c.args.token.now c.in-Some.index rest
    (sym c.in-Some.ensures) dropped ∙ h)

pub returns-in-None-clause-ok : goal.returns-in-None-clause-ok
returns-in-None-clause-ok c =
    if_ok c.step.result c.step.ensures.ok (λ part h rest dropped.
    steps_beside c.args.container.now c.args.gone.now c.args.token.now rest
    (sym c.in-None.ensures) c.requires dropped ∙ h)

pub returns-in-None-clause-err : goal.returns-in-None-clause-err
returns-in-None-clause-err c =
    if_err c.step.result c.step.ensures.err (λ cause h rest dropped.
    steps_beside c.args.container.now c.args.gone.now c.args.token.now rest
    (sym c.in-None.ensures) c.requires dropped ∙ h)

use Rattle.relay_apply.proofs.Folds.{leads_on, led_to}
use Rattle.relay_apply.proofs.steps.perform.Goals as goal
use Rattle.relay_patch.proofs.Refusals.{on_both}
use Rattle.relay_tree.proofs.Outcomes.{if_err}

pub advance-requires-clause-makes : goal.advance-requires-clause-makes
advance-requires-clause-makes c =
    leads_on c.args.op.now c.args.tree.now _ c.in_ok-change.ensures.ok
    c.in_ok-change.ensures.changes

pub returns-clause-document : goal.returns-clause-document
returns-clause-document c =
    on_both c.advance.result c.advance.ensures.fits c.advance.ensures.document (λ fits led.
    rw (
      led_to c.args.op.now c.args.tree.now c.advance.new.tree _ c.in_ok-change.ensures.ok
          c.in_ok-change.ensures.changes led,
      ← c.in_ok-change.ensures.changes,
    ) fits)

pub returns-clause-refused : goal.returns-clause-refused
returns-clause-refused c =
    if_err c.advance.result c.advance.ensures.refused (λ cause h other. let r = h other in
    rw (
      led_to c.args.op.now c.args.tree.now r.0 _ c.in_ok-change.ensures.ok
          c.in_ok-change.ensures.changes r.1,
      ← c.in_ok-change.ensures.changes,
    ) r.2)

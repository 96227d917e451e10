use Rattle.relay_patch.proofs.Fits.{within_flat, after_fits}
use Rattle.relay_patch.proofs.Made.{is_led}
use Rattle.relay_apply.proofs.applying.apply.Goals as goal

pub returns-in-Ok-clause-led : goal.returns-in-Ok-clause-led
returns-in-Ok-clause-led c =
    let lead =
    is_led c.args.tree.now _ c.args.patch.now c.args.bounds
    (rw c.ops.ensures at c.in-Ok.ensures.document) in
    rw (c.in-Ok.ensures.changes, c.ops.ensures) lead

pub returns-in-Ok-clause-sizes : goal.returns-in-Ok-clause-sizes
returns-in-Ok-clause-sizes c = λ small kept.
    let fits =
    after_fits c.args.patch.now 0 0 c.args.bounds c.args.tree.now _ small
    (within_flat c.args.bounds c.args.tree.now c.args.tree.now small kept)
    (rw c.ops.ensures at c.in-Ok.ensures.document) in
    rw (c.in-Ok.ensures.changes, c.ops.ensures) fits

use Rattle.std.proofs.Common.{◌∙◌}
use Rattle.relay_apply.specs.Steps.{resolve_existing, resolve_existing_in}
use Rattle.relay_apply.proofs.Resolved.{resolve_existing-end, in_container, no_container}
use Rattle.relay_apply.proofs.insert_target.resolve_existing.Goals as goal

pub returns-in-Ok-clause-item : goal.returns-in-Ok-clause-item
returns-in-Ok-clause-item c =
    c.resolve_existing_in.ensures.item
    ∙ in_container resolve_existing resolve_existing_in resolve_existing-end c.args.path.now
    c.last-item.result c.args.tree.now c.in-len1-up.len_at_least c.last-item.is
    c.in-Ok.container.now c.as_str.result.now c.in-Ok.ensures.ok c.as_str.ensures.value

pub returns-in-Err-clause-item : goal.returns-in-Err-clause-item
returns-in-Err-clause-item c =
    no_container resolve_existing resolve_existing_in resolve_existing-end c.args.path.now
    c.last-item.result c.args.tree.now c.in-len1-up.len_at_least c.last-item.is c.in-Err.cause
    c.in-Err.ensures.err

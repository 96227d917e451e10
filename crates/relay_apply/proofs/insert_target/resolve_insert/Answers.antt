use Rattle.std.proofs.Common.{◌∙◌}
use Rattle.relay_apply.specs.Steps.{resolve_insert, resolve_insert_in}
use Rattle.relay_apply.proofs.Resolved.{resolve_insert-end, in_container, no_container}
use Rattle.relay_apply.proofs.insert_target.resolve_insert.Goals as goal

pub returns-in-Ok-clause-insert_target : goal.returns-in-Ok-clause-insert_target
returns-in-Ok-clause-insert_target c =
    c.resolve_insert_in.ensures.insert_target
    ∙ in_container resolve_insert resolve_insert_in resolve_insert-end c.args.path.now
    c.last-item.result c.args.tree.now c.in-len1-up.len_at_least c.last-item.is
    c.in-Ok.container.now c.as_str.result.now c.in-Ok.ensures.ok c.as_str.ensures.value

pub returns-in-Err-clause-insert_target : goal.returns-in-Err-clause-insert_target
returns-in-Err-clause-insert_target c =
    no_container resolve_insert resolve_insert_in resolve_insert-end c.args.path.now
    c.last-item.result c.args.tree.now c.in-len1-up.len_at_least c.last-item.is c.in-Err.cause
    c.in-Err.ensures.err

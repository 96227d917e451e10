use Rattle.std.proofs.Common.{sym}
use Rattle.relay_tree.specs.Document.{items_of}
use Rattle.relay_apply.proofs.Resolved.{item_there, no_item_there, no_place}
use Rattle.relay_apply.proofs.insert_target.is_item_at.Goals as goal

pub returns-in-List : goal.returns-in-List
returns-in-List c =
    item_there c.args.path.now c.args.tree.now c.in-Ok.container.now
    (items_of c.in-List.field-0.items) c.in-len1-up.len_at_least c.in-Ok.ensures.ok
    (sym (rw c.in-List.is at c.container.view_is))

pub returns-in_default-matches : goal.returns-in_default-matches
returns-in_default-matches c =
    no_item_there c.args.path.now c.args.tree.now c.in-Ok.container.now c.container.inside.node
    c.in-len1-up.len_at_least c.in-Ok.ensures.ok (sym c.container.view_is)
    c.in_default-matches.not-List

pub returns-in-Err : goal.returns-in-Err
returns-in-Err c =
    no_place c.args.path.now c.args.tree.now c.in-Err.field-0 c.in-len1-up.len_at_least
    c.in-Err.ensures.err

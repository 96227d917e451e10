use Rattle.std.proofs.Common.{◌≡◌, length, sym, ◌∙◌}
use Rattle.relay_tree.specs.Document.{items_of}
use Rattle.relay_tree.specs.Part.{items_length}
use Rattle.relay_tree.proofs.Elements.{items_length-items_of}
use Rattle.relay_apply.proofs.Contained.{inserts}
use Rattle.relay_apply.proofs.Targets.{list_refuses}
use Rattle.relay_apply.proofs.container.insert_item.Goals as goal
use Rattle.relay_tree.proofs.Outcomes.{on_ok, refused_not_ok}

pub returns-clause-ok : goal.returns-clause-ok
returns-clause-ok c =
    let v = c.args.items.now in
    let ok = v.ok in
    let long : c.len.result ≡ length v.items = c.len.ensures ∙ ok.0 in
    on_ok c.insert_at_index.result c.insert_at_index.ensures.ok (λ h.
    rw h (inserts v.items c.args.token.now c.args.value c.len.result c.in-Ok.index long
    c.in-Ok.ensures.is))

pub unreachable-requires : goal.unreachable-requires
unreachable-requires c =
    let v = c.args.items.now in
    let ok = v.ok in
    let long : c.len.result ≡ items_length (items_of v.items) =
    c.len.ensures ∙ ok.0 ∙ sym (items_length-items_of v.items) in
    refused_not_ok _ _ (list_refuses (items_of v.items) c.args.token.now c.in-Err.field-0
    (rw long at (sym c.in-Err.ensures.is)) c.args.value) c.requires

use Rattle.std.proofs.Common.{◌≡◌, refl, sym, ◌∙◌}
use Rattle.relay_tree.specs.Document.{items_of}
use Rattle.relay_tree.specs.Part.{items_length}
use Rattle.relay_tree.proofs.Elements.{items_length-items_of}
use Rattle.relay_tree.specs.Seen.{members_of}
use Rattle.relay_apply.proofs.Resolved.{resolve_insert_in-object}
use Rattle.relay_apply.proofs.insert_target.resolve_insert_in.Goals as goal

pub returns-in-Ok-clause-insert_target : goal.returns-in-Ok-clause-insert_target
returns-in-Ok-clause-insert_target c =
    let v = c.in-List.items in
    let ok = v.ok in
    let long : c.len.result ≡ items_length (items_of v.items) =
    c.len.ensures ∙ ok.0 ∙ sym (items_length-items_of v.items) in
    rw (← c.container.view_is, c.in-List.is, ← long, ← c.in-Ok.ensures.is) refl

pub returns-in-Err-clause-insert_target : goal.returns-in-Err-clause-insert_target
returns-in-Err-clause-insert_target c =
    let v = c.in-List.items in
    let ok = v.ok in
    let long : c.len.result ≡ items_length (items_of v.items) =
    c.len.ensures ∙ ok.0 ∙ sym (items_length-items_of v.items) in
    rw (← c.container.view_is, c.in-List.is, ← long, ← c.in-Err.ensures.is) refl

pub returns-in-Members-clause-insert_target : goal.returns-in-Members-clause-insert_target
returns-in-Members-clause-insert_target c =
    resolve_insert_in-object c.member.result c.is_some.result c.args.container.now
    (members_of c.in-Members.field-0.entries) c.args.token.now
    (rw c.in-Members.is at c.container.view_is) c.member.ensures c.is_some.ensures

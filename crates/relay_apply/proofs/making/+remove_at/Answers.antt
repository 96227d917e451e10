use Rattle.std.proofs.Common.{◌≡◌, Ok, ◌∷◌, string_bytes, sym, ap, ◌∙◌}
use Rattle.relay_tree.specs.Seen.{document_of}
use Rattle.relay_pointer.specs.Path.{with_child}
use Rattle.relay_patch.specs.Walk.{step}
use Rattle.relay_patch.specs.Patch.{drop_child}
use Rattle.relay_patch.proofs.Acts.{droppable, acts_below}
use Rattle.relay_patch.proofs.Walks.{found_step}
use Rattle.relay_apply.proofs.making.+remove_at.Goals as goal
use Rattle.relay_pointer.proofs.Tokens.{no_tokens, some_tokens, tokens_front}

pub drop_child-requires : goal.drop_child-requires
drop_child-requires t c =
    let d = c.args.tree.now in
    let token = string_bytes c.token-item.result in
    let front =
    tokens_front c.args.path.now c.token-item.result c.in-len1-up.len_at_least
    c.token-item.is in
    let whole = front ∙ ap (λ p.
    token ∷ p) (no_tokens _ (sym c.is_empty.ensures ∙ c.if-is_empty.true)) in
    rw c.as_str.ensures.value (droppable d token (rw whole at c.requires))

pub returns-clause-rest : goal.returns-clause-rest
returns-clause-rest t c =
    let d = c.args.tree.now in
    let token = string_bytes c.token-item.result in
    let front =
    tokens_front c.args.path.now c.token-item.result c.in-len1-up.len_at_least
    c.token-item.is in
    let more = some_tokens _ (sym c.is_empty.ensures ∙ c.if-is_empty.false) in
    let whole = c.tree.view_is in
    let found : step d token ≡ Ok c.unwrap-part.result.now =
    found_step d token c.unwrap-part.result.now
    (sym (rw (
      c.unwrap-part.ensures,
      whole,
      c.as_str-2.ensures.value,
    ) at c.child_mut.ensures.value)) in
    let lent : document_of (c.child_mut.follows.lender c.remove_at.new.tree)
    ≡ with_child d token c.remove_at.new.tree =
    rw (
      c.unwrap-part.ensures,
      whole,
      c.as_str-2.ensures.value,
    ) at (c.child_mut.follows.holds c.remove_at.new.tree) in
    rw (front, more.2) (acts_below drop_child d c.unwrap-part.result.now _ c.remove_at.new.tree
    token more.0 more.1 found lent (rw more.2 at c.remove_at.ensures.rest))

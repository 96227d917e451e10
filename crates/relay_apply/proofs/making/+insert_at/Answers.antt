use Rattle.std.proofs.Common.{◌≡◌, Some, Ok, string_bytes, sym, ap, ◌∙◌}
use Rattle.relay_tree.specs.Seen.{document_of}
use Rattle.relay_pointer.specs.Path.{child, with_child}
use Rattle.relay_pointer.proofs.Walks.{with_child-same}
use Rattle.relay_patch.specs.Walk.{step}
use Rattle.relay_patch.specs.Patch.{insert_child}
use Rattle.relay_patch.proofs.Acts.{acts_below}
use Rattle.relay_patch.proofs.Walks.{found_step}
use Rattle.relay_apply.proofs.making.+insert_at.Goals as goal
use Rattle.relay_pointer.proofs.Tokens.{some_tokens, tokens_front}
use Rattle.relay_tree.proofs.Outcomes.{on_ok, on_err}

pub returns-clause-ok : goal.returns-clause-ok
returns-clause-ok t c =
    let d = c.args.tree.now in
    let token = string_bytes c.token-item.result in
    let front =
    tokens_front c.args.path.now c.token-item.result c.in-len1-up.len_at_least
    c.token-item.is in
    let more = some_tokens _ (sym c.is_empty.ensures ∙ c.if-is_empty.false) in
    let whole = c.tree.view_is in
    let found : step d token ≡ Ok c.unwrap-part.result.now =
    found_step d token c.unwrap-part.result.now
    (sym (rw (
      c.unwrap-part.ensures,
      whole,
      c.as_str-2.ensures.value,
    ) at c.child_mut.ensures.value)) in
    let lent : document_of (c.child_mut.follows.lender c.insert_at.new.tree)
    ≡ with_child d token c.insert_at.new.tree =
    rw (
      c.unwrap-part.ensures,
      whole,
      c.as_str-2.ensures.value,
    ) at (c.child_mut.follows.holds c.insert_at.new.tree) in
    on_ok c.insert_at.result c.insert_at.ensures.ok (λ h.
    rw (front, more.2) (acts_below (insert_child c.args.value) d c.unwrap-part.result.now _
    c.insert_at.new.tree token more.0 more.1 found lent (rw more.2 at h)))

pub returns-clause-err : goal.returns-clause-err
returns-clause-err t c =
    let d = c.args.tree.now in
    let token = string_bytes c.token-item.result in
    let whole = c.tree.view_is in
    let found : child d token ≡ Some c.unwrap-part.result.now =
    sym (rw (
      c.unwrap-part.ensures,
      whole,
      c.as_str-2.ensures.value,
    ) at c.child_mut.ensures.value) in
    let lent : document_of (c.child_mut.follows.lender c.insert_at.new.tree)
    ≡ with_child d token c.insert_at.new.tree =
    rw (
      c.unwrap-part.ensures,
      whole,
      c.as_str-2.ensures.value,
    ) at (c.child_mut.follows.holds c.insert_at.new.tree) in
    on_err c.insert_at.result c.insert_at.ensures.err (λ same.
    lent ∙ ap (with_child d token) same
    ∙ with_child-same d token c.unwrap-part.result.now found)

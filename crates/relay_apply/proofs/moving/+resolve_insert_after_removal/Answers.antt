use Rattle.std.proofs.Common.{◌∷◌, string_bytes, sym, ap, ◌∙◌}
use Rattle.relay_tree.proofs.Names.{equal_bytes}
use Rattle.relay_pointer.specs.Path.{path_of}
use Rattle.relay_apply.proofs.InsertWithout.{path_ends, from_ends, from_ends_refused, both_go_on}
use Rattle.relay_apply.proofs.InsertWithout.{paths_part, path_breaks}
use Rattle.relay_apply.proofs.moving.+resolve_insert_after_removal.Goals as goal
use Rattle.relay_pointer.proofs.Tokens.{tokens_front, no_tokens, some_tokens}

pub returns-else-is_empty-2-clause-insert_target : goal.returns-else-is_empty-2-clause-insert_target
returns-else-is_empty-2-clause-insert_target t c =
    let from = c.args.from.now in
    let path = c.args.path.now in
    let goes = tokens_front path c.token-item.result c.in-len1-up-path.len_at_least c.token-item.is
    ∙ ap (λ p. string_bytes c.token-item.result ∷ p)
    (no_tokens _ (sym c.is_empty.ensures ∙ c.if-is_empty.true)) in
    let more = some_tokens _ (sym c.is_empty-then-is_empty.ensures ∙ c.if-is_empty-2.false) in
    let is = tokens_front from c.gone-item.result c.in-len1-up.len_at_least c.gone-item.is
    ∙ ap (λ p. string_bytes c.gone-item.result ∷ p) more.2 in
    path_ends (path_of from) (path_of path) _ _ _ _ c.args.tree.now _ is goes
    (rw c.as_str-else-is_empty-2.ensures.value at c.resolve_insert_in.ensures.insert_target)

pub returns-in-Ok-clause-insert_target : goal.returns-in-Ok-clause-insert_target
returns-in-Ok-clause-insert_target t c =
    let from = c.args.from.now in
    let path = c.args.path.now in
    let onward = some_tokens _ (sym c.is_empty.ensures ∙ c.if-is_empty.false) in
    let goes = tokens_front path c.token-item.result c.in-len1-up-path.len_at_least c.token-item.is
    ∙ ap (λ p. string_bytes c.token-item.result ∷ p) onward.2 in
    let is = tokens_front from c.gone-item.result c.in-len1-up.len_at_least c.gone-item.is
    ∙ ap (λ p. string_bytes c.gone-item.result ∷ p)
    (no_tokens _ (sym c.is_empty-2.ensures ∙ c.if-is_empty-3.true)) in
    from_ends (path_of from) (path_of path) _ _ _ _ c.args.tree.now c.in-Ok.part.now _ is goes
    (rw (
      c.as_str-then-is_empty-3.ensures.value,
      c.as_str-then-is_empty-3-2.ensures.value,
    ) at c.in-Ok.ensures.ok)
    (rw onward.2 at c.resolve_insert.ensures.insert_target)

pub returns-in-Err-clause-insert_target : goal.returns-in-Err-clause-insert_target
returns-in-Err-clause-insert_target t c =
    let from = c.args.from.now in
    let path = c.args.path.now in
    let onward = some_tokens _ (sym c.is_empty.ensures ∙ c.if-is_empty.false) in
    let goes = tokens_front path c.token-item.result c.in-len1-up-path.len_at_least c.token-item.is
    ∙ ap (λ p. string_bytes c.token-item.result ∷ p) onward.2 in
    let is = tokens_front from c.gone-item.result c.in-len1-up.len_at_least c.gone-item.is
    ∙ ap (λ p. string_bytes c.gone-item.result ∷ p)
    (no_tokens _ (sym c.is_empty-2.ensures ∙ c.if-is_empty-3.true)) in
    from_ends_refused (path_of from) (path_of path) _ _ _ _ c.args.tree.now c.in-Err.cause is goes
    (rw (
      c.as_str-then-is_empty-3.ensures.value,
      c.as_str-then-is_empty-3-2.ensures.value,
    ) at c.in-Err.ensures.err)

pub returns-then-eq-clause-insert_target : goal.returns-then-eq-clause-insert_target
returns-then-eq-clause-insert_target t c =
    let from = c.args.from.now in
    let path = c.args.path.now in
    let onward = some_tokens _ (sym c.is_empty.ensures ∙ c.if-is_empty.false) in
    let deeper = some_tokens _ (sym c.is_empty-2.ensures ∙ c.if-is_empty-3.false) in
    let goes = tokens_front path c.token-item.result c.in-len1-up-path.len_at_least c.token-item.is
    ∙ ap (λ p. string_bytes c.token-item.result ∷ p) onward.2 in
    let is = tokens_front from c.gone-item.result c.in-len1-up.len_at_least c.gone-item.is
    ∙ ap (λ p. string_bytes c.gone-item.result ∷ p) deeper.2 in
    let same =
    equal_bytes (string_bytes c.gone-item.result) (string_bytes c.token-item.result)
    (sym c.eq.ensures ∙ c.if-eq.true) in
    both_go_on (path_of from) (path_of path) _ _ _ _ _ _ c.args.tree.now c.in-Ok-step.part.now _ is
    goes same (rw c.as_str-2.ensures.value at c.in-Ok-step.ensures.ok) (rw (
      onward.2,
      deeper.2,
    ) at c.resolve_insert_after_removal.ensures.insert_target)

pub returns-else-eq-clause-insert_target : goal.returns-else-eq-clause-insert_target
returns-else-eq-clause-insert_target t c =
    let from = c.args.from.now in
    let path = c.args.path.now in
    let onward = some_tokens _ (sym c.is_empty.ensures ∙ c.if-is_empty.false) in
    let deeper = some_tokens _ (sym c.is_empty-2.ensures ∙ c.if-is_empty-3.false) in
    let goes = tokens_front path c.token-item.result c.in-len1-up-path.len_at_least c.token-item.is
    ∙ ap (λ p. string_bytes c.token-item.result ∷ p) onward.2 in
    let is = tokens_front from c.gone-item.result c.in-len1-up.len_at_least c.gone-item.is
    ∙ ap (λ p. string_bytes c.gone-item.result ∷ p) deeper.2 in
    paths_part (path_of from) (path_of path) _ _ _ _ _ _ c.args.tree.now c.in-Ok-step.part.now _ is
    goes (sym c.eq.ensures
    ∙ c.if-eq.false) (rw c.as_str-2.ensures.value at c.in-Ok-step.ensures.ok)
    (rw onward.2 at c.resolve_insert-else-eq.ensures.insert_target)

pub returns-in-Err-step-clause-insert_target : goal.returns-in-Err-step-clause-insert_target
returns-in-Err-step-clause-insert_target t c =
    let from = c.args.from.now in
    let path = c.args.path.now in
    let onward = some_tokens _ (sym c.is_empty.ensures ∙ c.if-is_empty.false) in
    let deeper = some_tokens _ (sym c.is_empty-2.ensures ∙ c.if-is_empty-3.false) in
    let goes = tokens_front path c.token-item.result c.in-len1-up-path.len_at_least c.token-item.is
    ∙ ap (λ p. string_bytes c.token-item.result ∷ p) onward.2 in
    let is = tokens_front from c.gone-item.result c.in-len1-up.len_at_least c.gone-item.is
    ∙ ap (λ p. string_bytes c.gone-item.result ∷ p) deeper.2 in
    path_breaks (path_of from) (path_of path) _ _ _ _ _ _ c.args.tree.now c.in-Err-step.cause is
    goes (rw c.as_str-2.ensures.value at c.in-Err-step.ensures.err)

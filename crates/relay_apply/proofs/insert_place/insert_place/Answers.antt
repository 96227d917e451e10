use Rattle.std.proofs.Common.{◌≡◌, ◌-◌, ◌++◌, [], ◌∷◌, length, take, string_bytes, refl, sym, ap}
use Rattle.std.proofs.Common.{◌∙◌}
use Rattle.relay_pointer.specs.Path.{path_of}
use Rattle.relay_apply.specs.Steps.{final}
use Rattle.relay_apply.proofs.Targets.{placed_at}
use Rattle.relay_apply.proofs.insert_place.insert_place.Goals as goal
use Rattle.relay_pointer.proofs.Tokens.{tokens_back, path_of-push}

pub returns : goal.returns
returns c =
    let tokens = c.tokens.result.now in
    let before = path_of (take (length tokens - 1) tokens) in
    let last = string_bytes c.last-item.result in
    let is : c.args.path.now ≡ before ++ last ∷ [] =
    sym c.tokens.ensures ∙ tokens_back tokens c.last-item.result c.in-len1-up.len_at_least
    c.last-item.is in
    let made : c.from_tokens-path.result ≡ before ++ final c.args.insert_target last ∷ [] =
    c.from_tokens-path.ensures
    ∙ ap path_of (ap (λ ts. ts.items) c.in_ok-new.ensures.ok ∙ c.in_ok-push.ensures.items)
    ∙ path_of-push c.in_ok-tokens.tokens.items c.in_ok-final_token.field-0
    ∙ rw (c.in_ok-tokens.ensures, c.in_ok-final_token.ensures) refl in
    rw c.is_item-item.ensures
    (placed_at c.args.insert_target c.args.path.now before c.from_tokens-path.result last is
    made)

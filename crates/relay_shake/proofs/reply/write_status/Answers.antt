-- The digits, a space and the phrase are the text of the status.
use Rattle.std.proofs.Common.{◌≡◌, ◌∙◌, ◌++◌, ◌∷◌, [], Some, option_map, ap, sym}
use Rattle.http.specs.StatusCode.{IsStatusCode, code_digits, reason_phrase}
use Rattle.relay_shake.specs.Replies.{status_text}
use Rattle.relay_shake.proofs.Refusals.{has_phrase, spelled, joined, value-from_OkIff}
use Rattle.relay_shake.proofs.reply.write_status.Goals as goal

pub unwrap-requires : goal.unwrap-requires
unwrap-requires c =
    let status = c.args.status in
    let code : c.unwrap-code.result ≡ status =
    value-from_OkIff (IsStatusCode status) _ _ _ c.from_u16.ensures c.unwrap-code.ensures in
    has_phrase _ status c.requires (c.canonical_reason.ensures.value ∙ ap reason_phrase code)

pub returns : goal.returns
returns c =
    let status = c.args.status in
    let old = c.args.reply.now.items in
    let phrase = c.unwrap.result.now in
    let code : c.unwrap-code.result ≡ status =
    value-from_OkIff (IsStatusCode status) _ _ _ c.from_u16.ensures c.unwrap-code.ensures in
    let digits : c.as_bytes.result.now ≡ code_digits status =
    c.as_bytes.ensures.value ∙ c.as_str.ensures ∙ ap code_digits code in
    let named : Some phrase ≡ reason_phrase status =
    ap (option_map (λ b. b.now)) (sym c.unwrap.ensures) ∙ c.canonical_reason.ensures.value
    ∙ ap reason_phrase code in
    let line : c.extend_from_slice-3.new.self.items
    ≡ ((old ++ code_digits status) ++ 32 ∷ []) ++ phrase =
    c.in_ok-extend_from_slice-3.ensures.items
    ∙ ap (λ t. t ++ c.as_bytes-2.result.now) (c.in_ok-extend_from_slice-2.ensures.items
    ∙ ap (λ t. t ++ 32 ∷ []) (c.in_ok-extend_from_slice.ensures.items
    ∙ ap (λ t. old ++ t) digits))
    ∙ ap (λ t. ((old ++ code_digits status) ++ 32 ∷ []) ++ t) c.as_bytes-2.ensures.value in
    line ∙ joined old (code_digits status) phrase (status_text status)
    (spelled phrase status c.requires named)

use Rattle.std.proofs.Common.{◌≡◌, ◌∙◌, nat_cmp}
use Rattle.std.specs.Ordering.{ordering_then}
use Rattle.relay_translate.proofs.Paths.{path_cmp, texts_cmp}
use Rattle.relay_audience.specs.ViewOrder.{kind_rank}
use Rattle.relay_audience.proofs.view_order.compare_slot.Goals as goal

pub returns : goal.returns
returns c =
    let s = c.args.slot.now in
    let t = c.args.other.now in
    let tokens : c.cmp-tokens.result ≡ path_cmp s.pointer t.pointer =
    c.cmp-tokens.ensures ∙ texts_cmp c.tokens.result.now c.tokens-2.result.now
    ∙ (λ i. path_cmp (c.tokens.ensures i) (c.tokens-2.ensures i)) in
    let kinds : c.cmp.result ≡ nat_cmp (kind_rank s.kind) (kind_rank t.kind) =
    c.cmp.ensures ∙ (λ i. nat_cmp (c.rank.ensures i) (c.rank-2.ensures i)) in
    c.then.ensures ∙ (λ i. ordering_then (tokens i) (kinds i))

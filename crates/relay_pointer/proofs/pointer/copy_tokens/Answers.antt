use Rattle.std.proofs.Common.{◌∷◌, [], string_bytes, sym, ap, ◌∙◌}
use Rattle.std.proofs.lemmas.List.{map-append}
use Rattle.relay_pointer.specs.Path.{path_of}
use Rattle.relay_pointer.proofs.Paths.{path_more}
use Rattle.relay_pointer.proofs.pointer.copy_tokens.Goals as goal

pub loop-token-preserved : goal.loop-token-preserved
loop-token-preserved c =
    let more = path_more c.args.tokens.now c.loop-token.token-index c.token-item.result
    c.loop-token-test.true c.token-item.is in
    let pushed =
    ap path_of c.in_ok-push.ensures.items
    ∙ map-append string_bytes c.loop-token.copies.items (c.in_ok-clone.field-0 ∷ []) in
    pushed ∙ rw (c.loop-token.invariant, c.in_ok-clone.ensures.cases) (sym more)

use Rattle.std.proofs.Common.{◌∷◌, [], string_bytes, append_assoc, flat_map, sym, ◌∙◌, arith}
use Rattle.relay_pointer.specs.Spelling.{escaped}
use Rattle.relay_pointer.proofs.Paths.{spelling_more}
use Rattle.relay_pointer.proofs.text.spelling_of.Goals as goal

pub loop-token-preserved : goal.loop-token-preserved
loop-token-preserved c =
    let more = spelling_more c.args.tokens.now c.loop-token.token-index c.token-item.result
    c.loop-token-test.true c.token-item.is in
    rw (more, sym c.loop-token.invariant)
    (c.in_ok-push_escaped.ensures
    ∙ rw (
      c.as_str.ensures.value,
      c.in_ok-push.ensures.bytes,
      c.in_ok-push.ensures.ascii (omega arith),
    )
    (append_assoc (string_bytes c.loop-token.text) (47 ∷ [])
    (flat_map escaped (string_bytes c.token-item.result))))

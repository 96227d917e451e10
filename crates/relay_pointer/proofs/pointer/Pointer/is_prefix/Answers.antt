use Rattle.std.proofs.Common.{refl, ◌∙◌}
use Rattle.relay_pointer.proofs.Prefixes.{starts_with-is_prefix}
use Rattle.relay_pointer.proofs.pointer.Pointer.is_prefix.Goals as goal

pub returns : goal.returns
returns c = c.starts_with.ensures.value
    ∙ starts_with-is_prefix c.tokens.result.now c.tokens-2.result.now
    ∙ rw (c.tokens.ensures, c.tokens-2.ensures) refl

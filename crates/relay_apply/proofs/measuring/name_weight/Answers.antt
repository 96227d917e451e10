use Rattle.std.proofs.Common.{sym, ap, ◌∙◌, arith}
use Rattle.relay_patch.specs.Measure.{name_weight}
use Rattle.relay_apply.proofs.Measures.{tokens_named}
use Rattle.relay_apply.proofs.measuring.name_weight.Goals as goal

pub returns-in-len1-up : goal.returns-in-len1-up
returns-in-len1-up c =
    let name = ap name_weight (sym c.tokens.ensures)
    ∙ tokens_named c.tokens.result.now c.last-item.result c.in-len1-up.len_at_least
    c.last-item.is in
    omega (arith, name, c.len.ensures, c.len.type_inv)

use Rattle.std.proofs.Common.{sym, ◌∙◌, arith}
use Rattle.std.proofs.lemmas.Str.Pattern.{starts_char}
use Rattle.std.proofs.lemmas.Bool.{false≢true}
use Rattle.relay_pointer.proofs.Escapes.{empty_spells, slash_spells, other_spells}
use Rattle.relay_pointer.proofs.reading.is_pointer.Goals as goal

pub returns-then-is_empty : goal.returns-then-is_empty
returns-then-is_empty c =
    c.if-is_empty.true
    ∙ sym (empty_spells c.args.text.now (sym c.is_empty.ensures ∙ c.if-is_empty.true))

pub returns-then-starts_with : goal.returns-then-starts_with
returns-then-starts_with c =
    let d = starts_char 47 c.args.text.now c.starts_with.result c.starts_with.ensures.cases
    (omega arith) (omega arith) in
    c.is_escaped.ensures ∙ sym (slash_spells c.args.text.now (d.0 c.if-starts_with.true))

pub returns-else-starts_with : goal.returns-else-starts_with
returns-else-starts_with c =
    let d = starts_char 47 c.args.text.now c.starts_with.result c.starts_with.ensures.cases
    (omega arith) (omega arith) in
    c.if-starts_with.false
    ∙ sym (other_spells c.args.text.now (sym c.is_empty.ensures ∙ c.if-is_empty.false)
    (λ e. false≢true (sym c.if-starts_with.false ∙ d.1 e)))

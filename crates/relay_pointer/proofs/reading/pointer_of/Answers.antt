use Rattle.std.proofs.Common.{Some, sym, ap, ◌∙◌, arith}
use Rattle.std.proofs.lemmas.Str.Pattern.{strip_prefix_char}
use Rattle.relay_pointer.specs.Path.{path_of}
use Rattle.relay_pointer.proofs.Escapes.{behind_slash, without_slash}
use Rattle.relay_pointer.proofs.reading.pointer_of.Goals as goal

pub tokens_behind-requires : goal.tokens_behind-requires
tokens_behind-requires c =
    let cut = rw c.in-Some.is at
    (strip_prefix_char 47 c.args.text.now c.strip_prefix.result c.strip_prefix.ensures.cases
    (omega arith)) in
    rw (behind_slash c.args.text.now c.in-Some.written.now cut) at c.requires

pub returns-in_default : goal.returns-in_default
returns-in_default c =
    let none = rw c.in_default.is at
    (strip_prefix_char 47 c.args.text.now c.strip_prefix.result c.strip_prefix.ensures.cases
    (omega arith)) in
    rw c.root.ensures (without_slash c.args.text.now none c.requires)

pub returns : goal.returns
returns c =
    let cut = rw c.in-Some.is at
    (strip_prefix_char 47 c.args.text.now c.strip_prefix.result c.strip_prefix.ensures.cases
    (omega arith)) in
    let made = c.from_tokens.ensures ∙ ap (λ tokens. path_of tokens.items) c.in_ok-new.ensures.ok in
    behind_slash c.args.text.now c.in-Some.written.now cut ∙ c.in_ok-tokens.ensures
    ∙ ap Some (sym made)

use Rattle.std.proofs.Common.{◌++◌, Some, string_bytes, encode_utf8, sym, ap, ◌∙◌, rules, arith}
use Rattle.std.proofs.lemmas.Str.Pattern.{split_parts}
use Rattle.relay_pointer.proofs.Escapes.{unescaped-plain, unescaped_more, escape_there}
use Rattle.relay_pointer.proofs.reading.unescaped.Goals as goal

pub unwrap-character-requires : goal.unwrap-character-requires
unwrap-character-requires c =
    let cut = rw c.in-Some.is at
    (split_parts 126 c.loop-plain.rest.now c.split_once.result c.split_once.ensures.cases
    (omega arith)) in
    escape_there c.args.written.now c.loop-plain.rest.now _ c.in-Some.behind.now
    (string_bytes c.loop-plain.token) c.escape.result cut.0 cut.1 c.loop-plain.invariant.rest
    c.requires c.escape.ensures.missing

pub loop-plain-preserved : goal.loop-plain-preserved
loop-plain-preserved c =
    let cut = rw c.in-Some.is at
    (split_parts 126 c.loop-plain.rest.now c.split_once.result c.split_once.ensures.cases
    (omega arith)) in
    let found = rw c.unwrap-character.ensures at c.escape.ensures.found in
    let small = rw c.unwrap-character.ensures at c.escape.ensures.ascii in
    let pushed =
    c.in_ok-push.ensures.bytes
    ∙ ap (λ l. l ++ encode_utf8 c.unwrap-character.result.0) c.in_ok-push_str.ensures.bytes
    ∙ ap (λ l. (string_bytes c.loop-plain.token ++ c.in-Some.plain.now) ++ l)
    (c.in_ok-push.ensures.ascii small) in
    record {
      utf8 = search rules;
      rest = unescaped_more c.args.written.now c.loop-plain.rest.now c.in-Some.plain.now
          c.in-Some.behind.now c.unwrap-character.result.1.now
          (string_bytes c.loop-plain.token) _ c.unwrap-character.result.0 cut.0 cut.1 found pushed
          c.loop-plain.invariant.rest;
    }

pub returns : goal.returns
returns c =
    let none = rw c.in_default.is at
    (split_parts 126 c.loop-plain.rest.now c.split_once.result c.split_once.ensures.cases
    (omega arith)) in
    rw (c.loop-plain.invariant.rest, unescaped-plain c.loop-plain.rest.now none)
    (ap Some (sym c.in_ok-push_str-2.ensures.bytes))

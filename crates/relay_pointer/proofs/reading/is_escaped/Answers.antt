use Rattle.std.proofs.Common.{◌≡◌, true, false, refl, sym, ◌∙◌, rules, arith}
use Rattle.std.proofs.lemmas.Str.Pattern.{split_parts}
use Rattle.relay_pointer.specs.Spelling.{begins_escape}
use Rattle.relay_pointer.proofs.Escapes.{is_escaped-plain, is_escaped-cut}
use Rattle.relay_pointer.proofs.reading.is_escaped.Goals as goal

pub returns-then-is_none : goal.returns-then-is_none
returns-then-is_none c =
    let cut = rw c.in-Some.is at
    (split_parts 126 c.loop-behind.rest.now c.split_once.result c.split_once.ensures.cases
    (omega arith)) in
    let none : begins_escape c.in-Some.behind.now ≡ false =
    sym c.escape.ensures.is_there ∙ c.if-is_none.ensures in
    rw (c.loop-behind.invariant.rest, is_escaped-cut c.loop-behind.rest.now _ _ cut.0 cut.1, none)
    refl

pub loop-behind-preserved : goal.loop-behind-preserved
loop-behind-preserved c =
    let cut = rw c.in-Some.is at
    (split_parts 126 c.loop-behind.rest.now c.split_once.result c.split_once.ensures.cases
    (omega arith)) in
    let there : begins_escape c.in-Some.behind.now ≡ true =
    sym c.escape.ensures.is_there ∙ c.if-is_none.ensures in
    record {
      utf8 = search rules;
      rest = c.loop-behind.invariant.rest ∙ is_escaped-cut c.loop-behind.rest.now _ _ cut.0 cut.1
          ∙ rw there refl;
    }

pub returns : goal.returns
returns c =
    let none = rw c.in_default.is at
    (split_parts 126 c.loop-behind.rest.now c.split_once.result c.split_once.ensures.cases
    (omega arith)) in
    sym (c.loop-behind.invariant.rest ∙ is_escaped-plain c.loop-behind.rest.now none)

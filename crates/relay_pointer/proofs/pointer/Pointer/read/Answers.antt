use Rattle.std.proofs.Common.{◌≡◌, ◌<◌, ◌≤◌, false, Some, None, is_some, Option, Result, Ok, Err}
use Rattle.std.proofs.Common.{IfErr, refl, sym, ◌∙◌, arith}
use Rattle.relay_pointer.specs.Spelling.{path_of_text}
use Rattle.relay_pointer.proofs.Escapes.{length-path_of_text, path_counts}
use Rattle.relay_pointer.proofs.Spellings.{reads-spelled, spells_none}
use Rattle.relay_pointer.proofs.pointer.Pointer.read.Goals as goal

none_from : {A : Type 0} (o : Option A) → is_some o ≡ false → o ≡ None
none_from None h = refl
none_from (Some a) h = cc

if_err : {A E : Type 0} {P : E → Type 0} (r : Result A E) → ((e : E) → P e) → IfErr r P
if_err (Ok a) f = tt
if_err (Err e) f = f e

pub returns-then-not-is_pointer-clause-unspelled : goal.returns-then-not-is_pointer-clause-unspelled
returns-then-not-is_pointer-clause-unspelled c =
    λ _. spells_none c.args.text.now
    (none_from (path_of_text c.args.text.now)
    (sym c.is_pointer.ensures ∙ c.if-not-is_pointer.true))

pub returns-then-count_tokens-most-clause-many : goal.returns-then-count_tokens-most-clause-many
returns-then-count_tokens-most-clause-many c =
    λ _. path_counts c.args.text.now (λ n. c.args.most < n)
    (sym c.is_pointer.ensures ∙ c.if-not-is_pointer.false)
    (omega (arith, c.count_tokens.ensures, c.if-count_tokens-most.true))

pub returns-in_err-pointer_of-clause-no_memory : goal.returns-in_err-pointer_of-clause-no_memory
returns-in_err-pointer_of-clause-no_memory c =
    let few = path_counts c.args.text.now (λ n. n ≤ c.args.most)
    (sym c.is_pointer.ensures ∙ c.if-not-is_pointer.false)
    (omega (arith, c.count_tokens.ensures, c.if-count_tokens-most.false)) in
    if_err c.from_residual.result (λ _ _. few)

pub returns-clause-spelled : goal.returns-clause-spelled
returns-clause-spelled c =
    reads-spelled c.args.text.now c.in_ok-pointer_of.field-0 c.in_ok-pointer_of.ensures

pub returns-clause-few : goal.returns-clause-few
returns-clause-few c =
    let long = length-path_of_text c.args.text.now c.in_ok-pointer_of.field-0
    c.in_ok-pointer_of.ensures in
    omega (arith, long, c.count_tokens.ensures, c.if-count_tokens-most.false)

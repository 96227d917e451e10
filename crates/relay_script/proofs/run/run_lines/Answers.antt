-- One more line was answered, or a fault stopped the run.
use Rattle.std.proofs.Common.{◌≤◌, ℕ, List, [], ◌∷◌, ◌++◌, length, ◌≡◌, true, refl, rules, arith}
use Rattle.std.proofs.Common.{length-append, string_bytes, vec_len}
use Rattle.std.proofs.lemmas.List.Elements.{All-nil, All-push}
use Rattle.std.proofs.lemmas.Result.{err_from_is_err_and}
use Rattle.std.proofs.KnownBytes.{Appends-trans, Appends-nil}
use Rattle.relay_script.specs.declared.input.TheConstants.{MAX_LINE}
use Rattle.relay_script.specs.declared.run.TheConstants.{MAX_LINES}
use Rattle.relay_script.specs.Lines.{TakesLine}
use Rattle.relay_script.specs.Respond.{start, AreWithin}
use Rattle.relay_script.proofs.RunLemmas.{step_at, TakesLines-start, TakesLines-more}
use Rattle.relay_script.proofs.RunLemmas.{TakesLines-kept, AnswersSome-whole, AnswersSome-cut}
use Rattle.relay_script.proofs.RunLemmas.{Stops-reading, Stops-input, Stops-no_memory}
use Rattle.relay_script.proofs.RunLemmas.{Stops-too_many, Stops-more}
use Rattle.relay_script.proofs.run.run_lines.Goals as goal

pub loop-before-init : goal.loop-before-init
loop-before-init g c =
    ([], [], start, rw c.new-lines.ensures (TakesLines-start _), Appends-nil _, refl, All-nil _)

pub returns-in_err-next_line-clause-stopped : goal.returns-in_err-next_line-clause-stopped
returns-in_err-next_line-clause-stopped g c =
    let (lines, written, run, taken, wrote, long, short) = c.loop-before.invariant in
    let p = err_from_is_err_and c.from_residual.result c.from_residual.ensures.1 in
    let within : AreWithin lines = record { few = omega (arith, long); short = short } in
    rw (p.1, p.2) (AnswersSome-whole _ _ _ _ _ _ _ lines written _ run taken wrote within
    (Stops-reading _ lines _ (omega (arith, long)) c.in_err-next_line.ensures.fault
    c.in_err-next_line.ensures.too_long))

pub returns-in_err-answer-clause-stopped : goal.returns-in_err-answer-clause-stopped
returns-in_err-answer-clause-stopped g c =
    let (lines, written, run, taken, wrote, long, short) = c.loop-before.invariant in
    let p =
    err_from_is_err_and c.from_residual-in_err-answer.result
    c.from_residual-in_err-answer.ensures.1 in
    let within : AreWithin lines = record { few = omega (arith, long); short = short } in
    rw (p.1, p.2) (AnswersSome-whole _ _ _ _ _ _ _ lines written _ run taken wrote within
    (Stops-no_memory lines _))

pub returns-in_err-write_whole-clause-stopped : goal.returns-in_err-write_whole-clause-stopped
returns-in_err-write_whole-clause-stopped g c =
    let (lines, written, run, taken, wrote, long, short) = c.loop-before.invariant in
    let p =
    err_from_is_err_and c.from_residual-in_err-write_whole.result
    c.from_residual-in_err-write_whole.ensures.1 in
    let line = c.next_line.new.line.items in
    let found : TakesLine _ _ true line =
    rw c.if-not-branch.false at c.in_ok-next_line.ensures.line in
    let answered = rw c.as_slice.ensures.value at c.in_ok-answer.ensures in
    let part = rw c.as_bytes.ensures.value at c.in_err-write_whole.ensures.err in
    let within : AreWithin lines = record { few = omega (arith, long); short = short } in
    rw (p.1, p.2, c.in_err-write_whole.ensures.fault)
    (AnswersSome-cut _ _ _ _ _ _ _ _ lines line written _ _ _ _ run taken found (omega (
      arith,
      long,
    )) answered wrote part within)

pub loop-before-preserved : goal.loop-before-preserved
loop-before-preserved g c =
    let (lines, written, run, taken, wrote, long, short) = c.loop-before.invariant in
    let line = c.next_line.new.line.items in
    let found : TakesLine _ _ true line =
    rw c.if-not-branch.false at c.in_ok-next_line.ensures.line in
    let answered = rw c.as_slice.ensures.value at c.in_ok-answer.ensures in
    let more = rw c.as_bytes.ensures.value at c.in_ok-write_whole.ensures.ok in
    let counted : vec_len c.next_line.new.line ≡ length line = search rules in (
      lines ++ line ∷ [],
      written ++ string_bytes c.in_ok-answer.answer,
      step_at _ _ run (omega (arith, long)) answered,
      TakesLines-more _ _ _ lines line taken found,
      Appends-trans _ _ _ _ _ wrote more,
      omega (arith, long, length-append lines (line ∷ [])),
      All-push (λ (l : List ℕ).
          length l ≤ MAX_LINE) lines line short (rw (← counted) c.in_ok-next_line.ensures.fits),
    )

pub returns-in_err-has_more-clause-stopped : goal.returns-in_err-has_more-clause-stopped
returns-in_err-has_more-clause-stopped g c =
    let (lines, written, run, taken, wrote, long, short) = c.loop-before.invariant in
    let p =
    err_from_is_err_and c.from_residual-in_err-has_more.result
    c.from_residual-in_err-has_more.ensures.1 in
    let within : AreWithin lines = record { few = omega (arith, long); short = short } in
    rw (p.1, p.2, c.in_err-has_more.ensures.fault)
    (AnswersSome-whole _ _ _ _ _ _ _ lines written _ run taken wrote within
    (Stops-input lines _))

pub returns-then-branch-clause-stopped : goal.returns-then-branch-clause-stopped
returns-then-branch-clause-stopped g c =
    let (lines, written, run, taken, wrote, long, short) = c.loop-before.invariant in
    let within : AreWithin lines = record { few = omega (arith, long); short = short } in
    let some = c.in_ok-has_more.ensures.more.0 (search rules) in
    AnswersSome-whole _ _ _ _ _ _ _ lines written _ run
    (TakesLines-kept _ _ _ lines taken c.in_ok-has_more.ensures.same) wrote within
    (Stops-too_many lines _ _ (omega (arith, long)) some)

pub returns-then-branch-clause-too_many : goal.returns-then-branch-clause-too_many
returns-then-branch-clause-too_many g c =
    let (lines, written, run, taken, wrote, long, short) = c.loop-before.invariant in
    let some = c.in_ok-has_more.ensures.more.0 (search rules) in
    let all : length lines ≡ MAX_LINES = omega (arith, long) in
    λ _.
    Stops-more _ _ lines (TakesLines-kept _ _ _ lines taken c.in_ok-has_more.ensures.same)
    (Stops-too_many lines _ _ all some)

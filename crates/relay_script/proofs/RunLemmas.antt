-- Lemmas about runs over the lines of an input.
use Rattle.std.proofs.Common.{◌≡◌, ◌⊎◌, ◌≢◌, ℕ, ◌+◌, ◌<◌, List, [], ◌∷◌, ◌++◌, length, take, refl}
use Rattle.std.proofs.Common.{sym, ◌∙◌, ap, subst, append_assoc, append-nil, length-append, Option}
use Rattle.std.proofs.Common.{Some, None, IfSome, OnOk, IfErr, Result, Ok, Err, true, inl, inr}
use Rattle.std.proofs.Common.{arith}
use Rattle.std.specs.Bool.{⊤}
use Rattle.std.specs.Io.KnownBytes.{Appends, Keeps, prepend_known}
use Rattle.std.proofs.KnownBytes.{Appends-trans, Appends-nil}
use Rattle.std.proofs.lemmas.List.Elements.{All-nil}
use Rattle.relay_script.specs.declared.fault.ScriptFault.{ScriptFault}
use Rattle.relay_script.specs.declared.fault.ScriptFault.TheVariants.{BadLimit, Input, Output}
use Rattle.relay_script.specs.declared.fault.ScriptFault.TheVariants.{LineTooLong, TooManyLines}
use Rattle.relay_script.specs.declared.fault.ScriptFault.TheVariants.{NoMemory}
use Rattle.relay_script.specs.declared.input.TheConstants.{MAX_LINE}
use Rattle.relay_script.specs.declared.run.TheConstants.{MAX_LINES}
use Rattle.relay_script.specs.Lines.{lines_of, TakesLine, BeginsTooLong, AppendsPart}
use Rattle.relay_script.specs.Respond.{Answering, Runs, start, step, TakesLines, AreWithin}
use Rattle.relay_script.specs.Respond.{StopsAfter, StopsBefore, AnswersAll, AnswersSome}
use Rattle.relay_script.proofs.LineLemmas.{lines_of-some}

-- no line was read
pub TakesLines-start : (input : Option (List ℕ)) → TakesLines input (prepend_known [] input) []
TakesLines-start None = tt
TakesLines-start (Some bytes) = refl

-- one more line was read
pub TakesLines-more : (input old new : Option (List ℕ)) (lines : List (List ℕ)) (line : List ℕ)
    → TakesLines input old lines → TakesLine old new true line
    → TakesLines input new (lines ++ line ∷ [])
TakesLines-more None old new lines line p q = tt
TakesLines-more (Some xs) None new lines line p q = absurd p
TakesLines-more (Some xs) (Some ys) None lines line p q = absurd q
TakesLines-more (Some xs) (Some ys) (Some zs) lines line p q =
    p ∙ ap (λ l. lines ++ l) q ∙ sym (append_assoc lines (line ∷ []) (lines_of zs))

-- the lines that were read are the first of the input
pub TakesLines-front : (input ahead : Option (List ℕ)) (lines : List (List ℕ))
    → TakesLines input ahead lines
    → IfSome input (λ bytes. (rest : List (List ℕ)) × (lines_of bytes ≡ lines ++ rest))
TakesLines-front None ahead lines p = tt
TakesLines-front (Some xs) None lines p = absurd p
TakesLines-front (Some xs) (Some ys) lines p = (lines_of ys, p)

-- reading ahead changes no line
pub TakesLines-kept : (input old new : Option (List ℕ)) (lines : List (List ℕ))
    → TakesLines input old lines → Keeps old new → TakesLines input new lines
TakesLines-kept None old new lines p keeps = tt
TakesLines-kept (Some xs) None new lines p keeps = absurd p
TakesLines-kept (Some xs) (Some ys) None lines p keeps = absurd keeps
TakesLines-kept (Some xs) (Some ys) (Some zs) lines p keeps =
    p ∙ ap (λ bytes. lines ++ lines_of bytes) (sym keeps)

-- a fault after these lines, and before the lines of the bytes that are not yet read
pub record Stops (fault : ScriptFault) (lines : List (List ℕ)) (ahead : Option (List ℕ)) : Type 0
  where
    pub count : StopsAfter fault (length lines)
    pub next : IfSome ahead (λ bytes. StopsBefore fault (lines_of bytes))

-- the lines that follow are those of the bytes that are not yet read
pub StopsBefore-front : (fault : ScriptFault) (input ahead : Option (List ℕ))
    (lines : List (List ℕ)) → TakesLines input ahead lines
    → IfSome ahead (λ bytes. StopsBefore fault (lines_of bytes))
    → IfSome input (λ bytes. (rest : List (List ℕ)) × (lines_of bytes ≡ lines ++ rest)
    × StopsBefore fault rest)
StopsBefore-front fault None ahead lines p next = tt
StopsBefore-front fault (Some xs) None lines p next = absurd p
StopsBefore-front fault (Some xs) (Some ys) lines p next = (lines_of ys, p, next)

unsaid : (ahead : Option (List ℕ)) → IfSome ahead (λ bytes. ⊤)
unsaid None = tt
unsaid (Some bytes) = tt

-- the reader, the writer or memory may fail anywhere
pub Stops-input : (lines : List (List ℕ)) (ahead : Option (List ℕ)) → Stops Input lines ahead
Stops-input lines ahead = record { count = tt; next = unsaid ahead }

pub Stops-output : (lines : List (List ℕ)) (ahead : Option (List ℕ)) → Stops Output lines ahead
Stops-output lines ahead = record { count = tt; next = unsaid ahead }

pub Stops-no_memory : (lines : List (List ℕ)) (ahead : Option (List ℕ)) → Stops NoMemory lines ahead
Stops-no_memory lines ahead = record { count = tt; next = unsaid ahead }

-- a fault that comes while the next line is read
pub Stops-reading : (fault : ScriptFault) (lines : List (List ℕ)) (ahead : Option (List ℕ))
    → length lines < MAX_LINES
    → (fault ≡ Input) ⊎ (fault ≡ LineTooLong) ⊎ (fault ≡ NoMemory)
    → (fault ≡ LineTooLong → BeginsTooLong MAX_LINE ahead) → Stops fault lines ahead
Stops-reading BadLimit lines ahead few which long = record { count = tt; next = unsaid ahead }
Stops-reading Input lines ahead few which long = Stops-input lines ahead
Stops-reading Output lines ahead few which long = Stops-output lines ahead
Stops-reading LineTooLong lines ahead few which long = record { count = few; next = long refl }
Stops-reading TooManyLines lines ahead few which long =
    elim which [ inl e ↦ cc | inr (inl e) ↦ cc | inr (inr e) ↦ cc ]
Stops-reading NoMemory lines ahead few which long = Stops-no_memory lines ahead

-- the input has more than `MAX_LINES` lines
pub Stops-too_many : (lines : List (List ℕ)) (unread : List ℕ) (rest : Option (List ℕ))
    → length lines ≡ MAX_LINES → 0 < length unread
    → Stops TooManyLines lines (prepend_known unread rest)
Stops-too_many lines [] rest all some = absurd (omega arith)
Stops-too_many lines (b ∷ unread) None all some = record { count = all; next = tt }
Stops-too_many lines (b ∷ unread) (Some bytes) all some =
    record { count = all; next = lines_of-some b (unread ++ bytes) }

longer : (lines rest : List (List ℕ)) → length lines ≡ MAX_LINES → rest ≢ []
    → MAX_LINES < length (lines ++ rest)
longer lines [] all some = absurd (some refl)
longer lines (line ∷ rest) all some = omega (arith, all, length-append lines (line ∷ rest))

-- at `TooManyLines` the input has more than `MAX_LINES` lines
pub Stops-more : (input ahead : Option (List ℕ)) (lines : List (List ℕ))
    → TakesLines input ahead lines → Stops TooManyLines lines ahead
    → IfSome input (λ bytes. MAX_LINES < length (lines_of bytes))
Stops-more None ahead lines p stops = tt
Stops-more (Some xs) None lines p stops = absurd p
Stops-more (Some xs) (Some ys) lines p stops =
    rw p (longer lines (lines_of ys) stops.count stops.next)

-- consequences of a success, or of a fault, of a result
pub on_success : {A E P Q : Type 0} (r : Result A E) → (P → Q) → OnOk r P → OnOk r Q
on_success (Ok x) f p = f p
on_success (Err e) f p = tt

pub if_fault : {A E : Type 0} (r : Result A E) {P Q : E → Type 0} → ((e : E) → P e → Q e)
    → IfErr r P → IfErr r Q
if_fault (Ok x) f p = tt
if_fault (Err e) f p = f e p

-- no lines are within the limits
none_within : AreWithin []
none_within = record { few = omega arith; short = All-nil _ }

module _ {S : Type 0} (answers : Answering S) where
  -- one more line, by its number
  pub step_at : {from mid to : S} {lines : List (List ℕ)} {line written answer : List ℕ}
      (number : ℕ) → Runs answers from lines mid written
      → number ≡ length lines + 1 → answers mid number line to answer
      → Runs answers from (lines ++ line ∷ []) to (written ++ answer)
  step_at {mid = mid} {to = to} {line = line} {answer = answer} number run count answered =
      step run (subst (λ n. answers mid n line to answer) count answered)

  -- a fault before a line's answer
  pub AnswersSome-whole : (fault : ScriptFault) (from : S) (input ahead old new : Option (List ℕ))
      (lines : List (List ℕ)) (written : List ℕ) (to : S)
      → Runs answers from lines to written → TakesLines input ahead lines → Appends old new written
      → AreWithin lines → Stops fault lines ahead
      → AnswersSome answers fault from input old new
  AnswersSome-whole fault from input ahead old new lines written to run taken wrote within stops = (
    lines,
    written,
    [],
    to,
    run,
    subst (Appends old new) (sym (append-nil written)) wrote,
    within,
    stops.count,
    StopsBefore-front fault input ahead lines taken stops.next,
    inl refl,
  )

  -- out of memory before the first line
  pub AnswersSome-none : (from : S) (input old : Option (List ℕ))
      → AnswersSome answers NoMemory from input old old
  AnswersSome-none from None old =
      ([], [], [], from, start, Appends-nil old, none_within, tt, tt, inl refl)
  AnswersSome-none from (Some xs) old =
      ([], [], [], from, start, Appends-nil old, none_within, tt, (lines_of xs, refl, tt), inl refl)

  -- a fault within a line's answer
  pub AnswersSome-cut : (from : S) (input ahead next old mid new : Option (List ℕ))
      (lines : List (List ℕ)) (line written answer : List ℕ) (to later : S) (number : ℕ)
      → Runs answers from lines to written → TakesLines input ahead lines
      → TakesLine ahead next true line → number ≡ length lines + 1
      → answers to number line later answer
      → Appends old mid written → AppendsPart mid new answer → AreWithin lines
      → AnswersSome answers Output from input old new
  AnswersSome-cut from input ahead next old mid new lines line written answer to later number run
      taken found count answered wrote part within = (
        lines,
        written,
        take part.0 answer,
        to,
        run,
        Appends-trans old mid new written (take part.0 answer) wrote part.2,
        within,
        tt,
        StopsBefore-front Output input ahead lines taken (unsaid ahead),
        inr (
          refl,
          (
            line,
            answer,
            later,
            part.0,
            subst (λ n. answers to n line later answer) count answered,
            refl,
            TakesLines-front input next (lines ++ line ∷ [])
                (TakesLines-more input ahead next lines line taken found),
          ),
        ),
      )

-- A run of one machine is a run of another, if a view maps the states of the first to those of the
-- second, and each answer of the first is one of the second.
module _ {S T : Type 0} (answers : Answering S) (others : Answering T) (view : S → T)
    (same : (old new : S) (number : ℕ) (line answer : List ℕ) → answers old number line new answer
    → others (view old) number line (view new) answer) where
  Runs-seen : {from to : S} {lines : List (List ℕ)} {written : List ℕ}
      → Runs answers from lines to written → Runs others (view from) lines (view to) written
  Runs-seen start = start
  Runs-seen (step run answered) = step (Runs-seen run) (same _ _ _ _ _ answered)

  pub AnswersAll-seen : (from : S) (input old new : Option (List ℕ))
      → AnswersAll answers from input old new → AnswersAll others (view from) input old new
  AnswersAll-seen from input old new (lines, written, to, run, wrote, within, all) =
      (lines, written, view to, Runs-seen run, wrote, within, all)

  pub AnswersSome-seen : (fault : ScriptFault) (from : S) (input old new : Option (List ℕ))
      → AnswersSome answers fault from input old new
      → AnswersSome others fault (view from) input old new
  AnswersSome-seen fault from input old new (
    lines,
    written,
    cut,
    to,
    run,
    wrote,
    within,
    count,
    front,
    inl none,
  ) =
      (lines, written, cut, view to, Runs-seen run, wrote, within, count, front, inl none)
  AnswersSome-seen fault from input old new (
    lines,
    written,
    cut,
    to,
    run,
    wrote,
    within,
    count,
    front,
    inr (output, (line, answer, later, n, answered, part, more)),
  ) = (
    lines,
    written,
    cut,
    view to,
    Runs-seen run,
    wrote,
    within,
    count,
    front,
    inr (output, (line, answer, view later, n, same _ _ _ _ _ answered, part, more)),
  )

  -- a run that succeeded, or that stopped at a fault, from the first state of the other machine
  pub done_seen : {A E : Type 0} (r : Result A E) (from : S) {first : T} → view from ≡ first
      → (input old new : Option (List ℕ))
      → OnOk r (AnswersAll answers from input old new)
      → OnOk r (AnswersAll others first input old new)
  done_seen r from begins input old new done =
      on_success r (λ all. subst (λ s.
      AnswersAll others s input old new) begins (AnswersAll-seen from input old new all))
      done

  pub stopped_seen : {A : Type 0} (r : Result A ScriptFault) (from : S) {first : T}
      → view from ≡ first → (input old new : Option (List ℕ))
      → IfErr r (λ fault. AnswersSome answers fault from input old new)
      → IfErr r (λ fault. AnswersSome others fault first input old new)
  stopped_seen r from begins input old new stopped =
      if_fault r (λ fault some.
      subst (λ s. AnswersSome others fault s input old new) begins
      (AnswersSome-seen fault from input old new some)) stopped

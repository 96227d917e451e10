-- Runs of a state that answers lines: over the lines of an input, with what is written for them.
use Rattle.std.specs.Prelude.{◌≡◌, ◌≢◌, ℕ, ◌+◌, ◌<◌, ◌≤◌, ◌⊎◌, List, [], ◌∷◌, ◌++◌, length, take}
use Rattle.std.specs.Prelude.{All, ⊤, Option, Some, None, IfSome}
use Rattle.std.specs.Io.KnownBytes.{Appends}
use Rattle.relay_script.specs.Lines.{lines_of, FirstIsTooLong}
use Rattle.relay_script.specs.declared.fault.ScriptFault.{ScriptFault}
use Rattle.relay_script.specs.declared.fault.ScriptFault.TheVariants.{Output, LineTooLong}
use Rattle.relay_script.specs.declared.fault.ScriptFault.TheVariants.{TooManyLines}
use Rattle.relay_script.specs.declared.input.TheConstants.{MAX_LINE}
use Rattle.relay_script.specs.declared.run.TheConstants.{MAX_LINES}

-- the state before a line, the line's number, the line, the state after it, and the answer
abbrev pub Answering : Type 0 → Type 1
Answering S = S → ℕ → List ℕ → S → List ℕ → Type 0

-- a run over lines, which are numbered from 1: the states before and after it, and all that is
-- written
pub data Runs {S : Type 0} (answers : Answering S) : S → List (List ℕ) → S → List ℕ → Type 0 where
  start : {from : S} → Runs answers from [] from []
  step : {from mid to : S} {lines : List (List ℕ)} {line written answer : List ℕ}
      → Runs answers from lines mid written → answers mid (length lines + 1) line to answer
      → Runs answers from (lines ++ line ∷ []) to (written ++ answer)

-- If the bytes are known: the lines of `old` are these lines, followed by the lines of `new`.
abbrev pub TakesLines : Option (List ℕ) → Option (List ℕ) → List (List ℕ) → Type 0
TakesLines None new lines = ⊤
TakesLines (Some old) None lines = ⊥
TakesLines (Some old) (Some new) lines = lines_of old ≡ lines ++ lines_of new

-- at most `MAX_LINES` lines, of at most `MAX_LINE` bytes each
pub record AreWithin (lines : List (List ℕ)) : Type 0 where
  pub few : length lines ≤ MAX_LINES
  pub short : All (λ line. length line ≤ MAX_LINE) lines

-- the number of lines answered before a fault: `MAX_LINES` at `TooManyLines`, fewer at
-- `LineTooLong`, and any number at another fault
abbrev pub StopsAfter : ScriptFault → ℕ → Type 0
StopsAfter TooManyLines count = count ≡ MAX_LINES
StopsAfter LineTooLong count = count < MAX_LINES
StopsAfter _ count = ⊤

-- the lines that follow them: at least one at `TooManyLines`, and one that is too long at
-- `LineTooLong`
abbrev pub StopsBefore : ScriptFault → List (List ℕ) → Type 0
StopsBefore TooManyLines rest = rest ≢ []
StopsBefore LineTooLong rest = FirstIsTooLong MAX_LINE rest
StopsBefore _ rest = ⊤

module _ {S : Type 0} (answers : Answering S) where
  -- every line of the input was answered, and nothing else was written
  abbrev pub AnswersAll : S → Option (List ℕ) → Option (List ℕ) → Option (List ℕ) → Type 0
  AnswersAll from input old new = (lines : List (List ℕ)) × (written : List ℕ) × (to : S)
      × Runs answers from lines to written × Appends old new written × AreWithin lines
      × IfSome input (λ bytes. lines ≡ lines_of bytes)

  -- a prefix of the answer to the line that follows these
  abbrev pub CutsNext : Option (List ℕ) → List (List ℕ) → S → List ℕ → Type 0
  CutsNext input lines from cut =
      (line answer : List ℕ) × (to : S) × (n : ℕ) × answers from (length lines + 1) line to answer
      × (cut ≡ take n answer)
      × IfSome input (λ bytes. (rest : List (List ℕ))
      × (lines_of bytes ≡ (lines ++ line ∷ []) ++ rest))

  -- The first lines of the input were answered, as many as the fault says, and nothing else was
  -- written, except that after a fault of the writer a prefix of the next answer may follow.
  abbrev pub AnswersSome : ScriptFault → S → Option (List ℕ) → Option (List ℕ) → Option (List ℕ)
      → Type 0
  AnswersSome fault from input old new = (lines : List (List ℕ)) × (written cut : List ℕ) × (to : S)
      × Runs answers from lines to written × Appends old new (written ++ cut) × AreWithin lines
      × StopsAfter fault (length lines)
      × IfSome input (λ bytes. (rest : List (List ℕ)) × (lines_of bytes ≡ lines ++ rest)
      × StopsBefore fault rest)
      × ((cut ≡ []) ⊎ ((fault ≡ Output) × CutsNext input lines to cut))

-- some line is longer than `most`
abbrev pub HasLongLine : ℕ → List (List ℕ) → Type 0
HasLongLine most lines =
    (before after : List (List ℕ)) × (line : List ℕ) × (lines ≡ before ++ line ∷ after)
    × (most < length line)

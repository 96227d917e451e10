-- The lines of a text: each ends with a line feed, and the last may lack it.
use Rattle.std.specs.Prelude.{◌≡◌, ◌≢◌, ℕ, ◌<◌, ◌==◌, if◌then◌else◌, List, [], ◌∷◌, ◌++◌, length}
use Rattle.std.specs.Prelude.{take, ◌≤◌, All, ⊤, Option, Some, None, IfSome, Bool, true, false}
use Rattle.std.specs.Io.KnownBytes.{Appends}

-- the lines, with a byte put at the front of the first one
abbrev pub onto_first : ℕ → List (List ℕ) → List (List ℕ)
onto_first b [] = (b ∷ []) ∷ []
onto_first b (line ∷ lines) = (b ∷ line) ∷ lines

-- the lines, without their line feeds
abbrev pub lines_of : List ℕ → List (List ℕ)
lines_of [] = []
lines_of (b ∷ rest) = if b == 10 then [] ∷ lines_of rest else onto_first b (lines_of rest)

-- none of these bytes is a line feed
abbrev pub HasNoBreak : List ℕ → Type 0
HasNoBreak part = All (λ b. b ≢ 10) part

-- A part of a line was removed from the front of the bytes, with the line feed after it if `ended`.
-- Unless `ended`, nothing is left.
pub record TakesPart (old new part : List ℕ) (ended : Bool) : Type 0 where
  pub within_line : HasNoBreak part
  pub front : old ≡ part ++ (if ended then 10 ∷ new else new)
  pub whole : ended ≡ false → new ≡ []

-- If the bytes are known: a line that was found was removed from their front; if none was found,
-- they were empty.
abbrev pub TakesLine : Option (List ℕ) → Option (List ℕ) → Bool → List ℕ → Type 0
TakesLine None new found line = ⊤
TakesLine (Some old) None found line = ⊥
TakesLine (Some old) (Some new) true line = lines_of old ≡ line ∷ lines_of new
TakesLine (Some old) (Some new) false line = old ≡ []

-- the first line is longer than `most`
abbrev pub FirstIsTooLong : ℕ → List (List ℕ) → Type 0
FirstIsTooLong most lines =
    (line : List ℕ) × (rest : List (List ℕ)) × (lines ≡ line ∷ rest) × (most < length line)

abbrev pub BeginsTooLong : ℕ → Option (List ℕ) → Type 0
BeginsTooLong most bytes = IfSome bytes (λ bytes. FirstIsTooLong most (lines_of bytes))

-- known bytes grow by a prefix of `bs`
abbrev pub AppendsPart : Option (List ℕ) → Option (List ℕ) → List ℕ → Type 0
AppendsPart old new bs = (n : ℕ) × (n ≤ length bs) × Appends old new (take n bs)

-- A line of keys that wait for a turn, pass by pass, as contracts see it, and what a call makes of
-- it. A pass visits each key that waits once. A key that it serves, or that comes meanwhile, stands
-- behind those that wait, for the next pass; a key that it skips stays among those that wait.
use Rattle.std.specs.Prelude.{◌≡◌, ℕ, ◌+◌, ◌<◌, ◌≤◌, ◌⊎◌, Bool, true, false, ◌&&◌, ◌||◌, ◌==◌, not}
use Rattle.std.specs.Prelude.{max, nat_lt, if◌then◌else◌, List, [], ◌∷◌, ◌++◌, length, drop, Option}
use Rattle.std.specs.Prelude.{Some, None, slice_get, refl}
use Rattle.std.specs.Coded.{Coded, code_by, coded×, coded_list, coded_ℕ}
use Rattle.relay_schedule.specs.Queue.{times}

-- the keys that the pass has still to visit; those that had a turn in it, or came since it began;
-- and how many are admitted: those below this number
pub record Line : Type 0 where
  pub waiting : List ℕ
  pub served : List ℕ
  pub admitted : ℕ

-- the keys of the line, in the order in which passes visit them
abbrev pub order : Line → List ℕ
order line = line.waiting ++ line.served

-- whether a key is in a list
abbrev pub is_in : ℕ → List ℕ → Bool
is_in key keys = nat_lt 0 (times key keys)

-- whether a key stands in the line
abbrev pub holds : ℕ → Line → Bool
holds key line = is_in key (order line)

-- the invariant of a line: no key stands there twice, and each that does is admitted
pub record IsLine (line : Line) : Type 0 where
  pub once : (key : ℕ) → times key (order line) ≤ 1
  pub admitted : (key : ℕ) → holds key line ≡ true → key < line.admitted

-- there is memory for this key
abbrev pub Admits : ℕ → Line → Type 0
Admits key line = key < line.admitted

-- whether no key stands in the line
abbrev pub is_empty : Line → Bool
is_empty line = (length line.waiting == 0) && (length line.served == 0)

-- no key stands in the line, and none is admitted
abbrev pub no_line : Line
no_line = record { waiting = []; served = []; admitted = 0 }

-- the line admits this key too, and those below it
abbrev pub admitting : ℕ → Line → Line
admitting key line = record line { admitted = max line.admitted (key + 1) }

-- the line is as it was, or admits this key too
abbrev pub MayAdmit : ℕ → Line → Line → Type 0
MayAdmit key old new = (new ≡ old) ⊎ (new ≡ admitting key old)

-- the key stands behind all others, unless it stands in the line or is not admitted
abbrev pub pushed : ℕ → Line → Line
pushed key line =
    if nat_lt key line.admitted && not (holds key line)
    then record line { served = line.served ++ key ∷ [] } else line

-- the key stands behind those that wait and before those that were served, unless it stands in the
-- line or is not admitted
abbrev pub skipped : ℕ → Line → Line
skipped key line =
    if nat_lt key line.admitted && not (holds key line)
    then record line { waiting = line.waiting ++ key ∷ [] } else line

-- the first key that waits, if any does
abbrev pub first : Line → Option ℕ
first line = slice_get line.waiting 0

-- the line without that key
abbrev pub without_first : Line → Line
without_first line = record line { waiting = drop 1 line.waiting }

-- the line as a pass begins: those that were served wait behind the others
abbrev pub in_new_pass : Line → Line
in_new_pass line = record line { waiting = order line; served = [] }

-- the key stands in the line after a turn, or after it was skipped, since it could not be served
abbrev pub put_back : Bool → ℕ → Line → Line
put_back is_served key line = if is_served then pushed key line else skipped key line

-- the line after its first key had a turn, or was skipped, and was put back
abbrev pub after_visit : Bool → Line → Line
after_visit is_served line =
    elim (first line) [ None ↦ line | Some key ↦ put_back is_served key (without_first line) ]

-- whom the next visits meet, of which these serve and the others skip
unfoldable pub met : List Bool → Line → List ℕ
met [] line = []
met (is_served ∷ more) line =
    elim (first line) [ None ↦ [] | Some key ↦ key ∷ met more (after_visit is_served line) ]

-- a pass begins; the first key is visited and put back, after a turn or skipped; the first key is
-- visited and leaves the line; or a key comes, after a turn or skipped elsewhere
pub data Act : Type 0 where
  begins : Act
  visits : Bool → Act
  leaves : Act
  comes : Bool → ℕ → Act

-- whether the next visit meets a key
abbrev pub is_first : ℕ → Line → Bool
is_first key line = is_in key (elim (first line) [ None ↦ [] | Some k ↦ k ∷ [] ])

-- `key` is visited before `other`. A visit that skips `other` counts only if it is in the pass in
-- which `key` waits: in the pass in which `key` had its turn, those behind it are skipped for that
-- turn.
unfoldable pub overtakes : ℕ → ℕ → List Act → Line → Bool
overtakes key other [] line = false
overtakes key other (begins ∷ acts) line = overtakes key other acts (in_new_pass line)
overtakes key other (visits is_served ∷ acts) line =
    is_first key line
    || (not (is_first other line && (is_served || is_in key line.waiting))
    && overtakes key other acts (after_visit is_served line))
overtakes key other (leaves ∷ acts) line =
    is_first key line
    || (not (is_first other line) && overtakes key other acts (without_first line))
overtakes key other (comes is_served k ∷ acts) line =
    overtakes key other acts (put_back is_served k line)

-- how the logic encodes a line
abbrev pub line_code : Coded Line
line_code = code_by (List ℕ × (List ℕ × ℕ))
    (coded× (coded_list coded_ℕ) (coded× (coded_list coded_ℕ) coded_ℕ))
    (λ line. (line.waiting, (line.served, line.admitted)))
    (λ p. record { waiting = p.0; served = p.1.0; admitted = p.1.1 })
    (λ _. refl)

-- The last revisions of a document, as contracts see a history.
use Rattle.std.specs.Prelude.{ℕ, ◌+◌, ◌-◌, ◌≤◌, List, [], ◌∷◌, ◌++◌, take, length, refl}
use Rattle.std.specs.Coded.{Coded, code_by, coded×, coded_list, coded_ℕ}
use Rattle.relay_patch.specs.declared.change.Change.{Change}
use Rattle.relay_history.specs.declared.history.TheConstants.{LAST_REVISION}
use Rattle.relay_limits.specs.declared.TheConstants.{MAX_REVISIONS}

-- the newest revision, the most revisions that are held, and the changes of each held one, newest
-- first
pub record Past : Type 0 where
  pub newest : ℕ
  pub limit : ℕ
  pub changes : List (List Change)

-- the invariant of a history: its limit is 1 to MAX_REVISIONS, it holds at most that many revisions
-- and at most as many as there are, and the newest is at most LAST_REVISION
pub record IsHistory (past : Past) : Type 0 where
  pub limited : (1 ≤ past.limit) × (past.limit ≤ MAX_REVISIONS)
  pub within : length past.changes ≤ past.limit
  pub made : length past.changes ≤ past.newest
  pub last : past.newest ≤ LAST_REVISION

-- a history that holds no revision yet
abbrev pub begun : ℕ → ℕ → Past
begun limit start = record { newest = start; limit = limit; changes = [] }

-- the history with one more revision; if the limit is reached, the oldest is forgotten
abbrev pub with_revision : List Change → Past → Past
with_revision changes past = record {
  newest = past.newest + 1;
  limit = past.limit;
  changes = take past.limit (changes ∷ past.changes);
}

-- the oldest revision after which all changes are held
abbrev pub oldest : Past → ℕ
oldest past = past.newest - length past.changes

-- the history holds all changes after the revision, which is not above the newest
pub record Reaches (past : Past) (rev : ℕ) : Type 0 where
  pub back : oldest past ≤ rev
  pub made : rev ≤ past.newest

-- the changes of revisions, in the order in which they were made; the revisions are given newest
-- first
abbrev pub in_order : List (List Change) → List Change
in_order [] = []
in_order (newest ∷ older) = in_order older ++ newest

-- the changes after a revision, up to the newest
abbrev pub changes_since : ℕ → Past → List Change
changes_since rev past = in_order (take (past.newest - rev) past.changes)

-- how the logic encodes a history
abbrev pub past_code : Coded Change → Coded Past
past_code change = code_by (ℕ × (ℕ × List (List Change)))
    (coded× coded_ℕ (coded× coded_ℕ (coded_list (coded_list change))))
    (λ past. (past.newest, (past.limit, past.changes)))
    (λ p. record { newest = p.0; limit = p.1.0; changes = p.1.1 })
    (λ _. refl)

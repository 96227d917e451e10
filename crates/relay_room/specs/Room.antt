-- A room as contracts see it: a shared document and the changes of its last revisions.
use Rattle.std.specs.Prelude.{◌≡◌, ℕ, List, Ok, refl}
use Rattle.std.specs.List.{AllByRecursion}
use Rattle.std.specs.Coded.{Coded, code_by, coded×}
use Rattle.relay_tree.specs.Document.{Document, weight}
use Rattle.relay_tree.specs.Code.{document_code}
use Rattle.relay_patch.specs.declared.bounds.TheConstants.Bounds.{DOCUMENT}
use Rattle.relay_patch.specs.declared.change.Change.{Change}
use Rattle.relay_patch.specs.Patch.{within}
use Rattle.relay_patch.specs.Change.{Leads}
use Rattle.relay_patch.specs.Sizes.{ChangeFits}
use Rattle.relay_tree.specs.declared.budget.Budget.{Budget}
use Rattle.relay_history.specs.History as history
use Rattle.relay_history.specs.Trimmed as trim
use Rattle.relay_history.specs.History.{Past, IsHistory, Reaches, changes_since, past_code}

-- the present document, and the changes of the last revisions
pub record State : Type 0 where
  pub document : Document
  pub history : Past

-- the present revision
abbrev pub revision : State → ℕ
revision room = room.history.newest

-- a room at a revision, which holds no changes yet
abbrev pub begun : Document → ℕ → ℕ → State
begun document rev limit = record { document = document; history = history.begun limit rev }

-- the room without the oldest revisions that a budget does not pay for
abbrev pub trimmed : Budget → State → State
trimmed budget room =
    record { document = room.document; history = trim.trimmed budget room.history }

-- each change fits: no path has more tokens than a document may be deep, and no value is deeper
abbrev pub Fit : List Change → Type 0
Fit changes = AllByRecursion (ChangeFits DOCUMENT.depth DOCUMENT.depth) changes

-- the invariant of a room
pub record IsRoom (room : State) : Type 0 where
  pub history : IsHistory room.history
  -- the document is within the bounds
  pub within : within DOCUMENT room.document ≡ Ok room.document
  -- each change held fits
  pub fit : AllByRecursion Fit room.history.changes
  -- for each revision that the history reaches, some document is led to the present one by the
  -- changes since
  pub led : (rev : ℕ) → Reaches room.history rev
      → (d : Document) × Leads d (changes_since rev room.history) room.document

-- how the logic encodes a room
abbrev pub state_code : Coded Change → Coded State
state_code change = code_by (Document × Past)
    (coded× document_code (past_code change))
    (λ room. (room.document, room.history))
    (λ p. record { document = p.0; history = p.1 })
    (λ _. refl)

-- the invariant of a stored room: n is the weight of its document
pub record IsWeighed (room : State) (n : ℕ) : Type 0 where
  pub is : IsRoom room
  pub weight : n ≡ weight room.document

-- An export, read back: what its lines give.
use Rattle.std.specs.Prelude.{◌≡◌, ℕ, zero, suc, List, [], ◌∷◌, ◌++◌, Some, codes, length, map}
use Rattle.std.specs.Str.Lines.{IsFirstLine}
use Rattle.relay_tree.specs.Count.{count_in}
use Rattle.relay_tree.specs.Document.{Document}
use Rattle.relay_tree.specs.Part.{object_member, text_in}
use Rattle.relay_tree.specs.Text.{tree_of_text}
use Rattle.relay_keeping.specs.Listing.{record_text}
use Rattle.relay_store.specs.Texts.{owned}
use Rattle.relay_store.specs.declared.change.Change.{Change}
use Rattle.relay_store.specs.declared.change.Change.TheVariants.{Begin, RaiseFloor}
use Rattle.relay_server.specs.declared.export.Export.{Export}

-- the first line has this epoch and this floor
abbrev pub IsFirstOf : Document → ℕ → ℕ → Type 0
IsFirstOf line epoch floor =
    (count_in line (codes "epoch") ≡ Some epoch) × (count_in line (codes "floor") ≡ Some floor)

-- the change begins the room of this line, with its document at its revision
pub record IsRoomOf (line : Document) (change : Change (List ℕ)) : Type 0 where
  pub name : List ℕ
  pub revision : ℕ
  pub document : Document
  pub named : text_in line (codes "room") ≡ Some name
  pub at : count_in line (codes "rev") ≡ Some revision
  pub has : object_member line (codes "document") ≡ Some document
  pub begins : change ≡ Begin name revision (record_text revision document)

-- the same of a line that reads as such a tree
abbrev pub IsRoomIn : List ℕ → Change (List ℕ) → Type 0
IsRoomIn text change =
    (line : Document) × (tree_of_text text ≡ Some line) × IsRoomOf line change

-- the changes begin the rooms of the lines of a text, in their order
pub data AreRoomsOf : List ℕ → List (Change (List ℕ)) → Type 0 where
  none : {text : List ℕ} → length text ≡ 0 → AreRoomsOf text []
  more : {text line rest : List ℕ} {change : Change (List ℕ)} {changes : List (Change (List ℕ))}
      → IsFirstLine text line rest → IsRoomIn line change → AreRoomsOf rest changes
      → AreRoomsOf text (change ∷ changes)

-- the change that raises the floor, if there is one
abbrev pub floor_changes : ℕ → List (Change (List ℕ))
floor_changes zero = []
floor_changes (suc n) = RaiseFloor (suc n) ∷ []

-- the export is what this text has: the epoch and the floor of its first line, and the rooms of the
-- others
pub record IsReadFrom (text : List ℕ) (export : Export) : Type 0 where
  pub first : List ℕ
  pub rest : List ℕ
  pub line : Document
  pub floor : ℕ
  pub rooms : List (Change (List ℕ))
  pub begins : IsFirstLine text first rest
  pub reads : tree_of_text first ≡ Some line
  pub has : IsFirstOf line export.epoch floor
  pub follow : AreRoomsOf rest rooms
  pub changes : map owned export.changes.items ≡ floor_changes floor ++ rooms

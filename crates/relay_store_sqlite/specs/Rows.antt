-- A row for each change that is kept, in a table that any SQLite reads.
use Rattle.std.specs.Prelude.{ℕ, ◌==◌, pos, if◌then◌else◌, List, [], ◌∷◌, map}
use Rattle.sqlite_value.specs.declared.value.Value.{Value}
use Rattle.sqlite_value.specs.declared.value.Value.TheVariants.{Null, Int, Text}
use Rattle.sqlite_value.specs.Order.{Row, column, bytes}
use Rattle.sqlite_trees.specs.Tree.{Trees}
use Rattle.relay_store.specs.declared.change.Change.{Change}
use Rattle.relay_store.specs.declared.change.Change.TheVariants.{Begin, Edit, End, RaiseFloor}
use Rattle.relay_store.specs.declared.change.Change.TheVariants.{LeaveWill, DropWill}
use Rattle.relay_store.specs.Kept.{Kept, begun, committed}
use Rattle.relay_store_sqlite.specs.declared.row.TheConstants as kind
use Rattle.relay_store_sqlite.specs.declared.write.TheConstants.{META_TREE, CHANGE_TREE}

-- a number of a row; 0 for anything else
abbrev pub number_of : Value → ℕ
number_of (Int (pos n)) = n
number_of _ = 0

-- the row of a change: its rowid, the kind, a room, a number and a text
abbrev pub entry : ℕ → ℕ → List ℕ → ℕ → List ℕ → Row
entry id kind room number text =
    Int (pos id) ∷ Null ∷ Int (pos kind) ∷ Text room ∷ Int (pos number) ∷ Text text ∷ []

-- the row of a change. What a change lacks is empty, or 0
abbrev pub row_of : ℕ → Change (List ℕ) → Row
row_of id (Begin room revision text) = entry id kind.BEGIN room revision text
row_of id (Edit room revision text) = entry id kind.EDIT room revision text
row_of id (End room) = entry id kind.END room 0 []
row_of id (RaiseFloor revision) = entry id kind.RAISE_FLOOR [] revision []
row_of id (LeaveWill session room text) = entry id kind.LEAVE_WILL room session text
row_of id (DropWill session) = entry id kind.DROP_WILL [] session []

-- the change of that kind
abbrev pub change_with : ℕ → List ℕ → ℕ → List ℕ → Change (List ℕ)
change_with k room number text =
    if k == kind.BEGIN then Begin room number text else
    (if k == kind.EDIT then Edit room number text else
    (if k == kind.END then End room else
    (if k == kind.RAISE_FLOOR then RaiseFloor number else
    (if k == kind.LEAVE_WILL then LeaveWill number room text else DropWill number))))

-- the change that a row stands for
abbrev pub change_of : Row → Change (List ℕ)
change_of r = change_with (number_of (column r 2)) (bytes (column r 3)) (number_of (column r 4))
    (bytes (column r 5))

-- the epoch, which the first row of the other table has
abbrev pub epoch_of : List Row → ℕ
epoch_of [] = 0
epoch_of (r ∷ rows) = number_of (column r 2)

-- what the trees of a database keep
abbrev pub kept_in : Trees → Kept
kept_in trees = committed (begun (epoch_of (trees META_TREE))) (map change_of (trees CHANGE_TREE))

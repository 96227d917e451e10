-- The table of changes while a store is open.
use Rattle.std.specs.Prelude.{◌≡◌, ◌≤◌, ◌+◌, ℕ, ℤ, pos, true, false, List, ◌++◌, map, Some}
use Rattle.std.specs.declared.cmp.Ordering.TheVariants.{Less}
use Rattle.std.specs.List.{AllByRecursion}
use Rattle.sqlite_value.specs.declared.value.Value.TheVariants.{Int}
use Rattle.sqlite_value.specs.Order.{Row, value_cmp}
use Rattle.sqlite_trees.specs.declared.store.Shape.TheVariants as shape
use Rattle.sqlite_trees.specs.Tree.{rowid}
use Rattle.sqlite_trees.specs.View.{View, Finds}
use Rattle.relay_store.specs.declared.change.Change.{Change}
use Rattle.relay_store.specs.Kept.{changed, committed}
use Rattle.relay_store.specs.Replaced.{is_replaced}
use Rattle.relay_store_sqlite.specs.Rows.{change_of, epoch_of, kept_in}
use Rattle.relay_store_sqlite.specs.declared.read.TheConstants.{CURSOR}
use Rattle.relay_store_sqlite.specs.declared.write.TheConstants.{META_TREE, CHANGE_TREE}

-- every rowid is below this one
abbrev pub AreBelow : ℕ → List Row → Type 0
AreBelow next = AllByRecursion (λ r. value_cmp (rowid r) (Int (pos next)) ≡ Less)

-- nothing is under way, there is a table of changes, and the next rowid is above all of its
pub record IsReady (v : View) (next : ℕ) : Type 0 where
  pub sound : v.is_broken ≡ false
  pub still : v.trees ≡ v.committed
  pub table : v.shape CHANGE_TREE ≡ shape.Table
  pub below : AreBelow next (v.trees CHANGE_TREE)

-- the row of that rowid stands for a change that this one replaces
abbrev pub MayGo : List Row → ℤ → Change (List ℕ) → Type 0
MayGo rows id change =
    (row : Row) × Finds rows id row true × (is_replaced change (change_of row) ≡ true)

-- only rows that the change replaces are gone, and nothing is committed yet
pub record Spares (old new : View) (change : Change (List ℕ)) : Type 0 where
  pub kept : changed (kept_in new.trees) change ≡ changed (kept_in old.trees) change
  pub below : (next : ℕ) → AreBelow next (old.trees CHANGE_TREE)
      → AreBelow next (new.trees CHANGE_TREE)
  pub shape : new.shape ≡ old.shape

-- the changes are made, and nothing is committed yet
pub record Wrote (old new : View) (next : ℕ) (changes : List (Change (List ℕ))) : Type 0 where
  pub kept : kept_in new.trees ≡ committed (kept_in old.trees) changes
  pub below : AreBelow next (new.trees CHANGE_TREE)
  pub shape : new.shape ≡ old.shape

-- the row's rowid is not below this one, and the next is one more
pub record IsNextRow (next : ℕ) (row : Row) (after : ℕ) : Type 0 where
  pub id : ℕ
  pub is : rowid row ≡ Int (pos id)
  pub above : next ≤ id
  pub after_is : after ≡ id + 1

-- only cursors have moved
abbrev pub OnlyReads : View → View → Type 0
OnlyReads old new = new ≡ record old { cursors = new.cursors }

-- the epoch was read
pub record HasEpoch (old new : View) (epoch : ℕ) : Type 0 where
  pub same : OnlyReads old new
  pub is : epoch ≡ epoch_of (old.trees META_TREE)

-- all changes were read, and all rowids are below this one
pub record WasRead (old new : View) (changes : List (Change (List ℕ))) (next : ℕ) : Type 0 where
  pub same : OnlyReads old new
  pub all : changes ≡ map change_of (old.trees CHANGE_TREE)
  pub below : AreBelow next (old.trees CHANGE_TREE)

-- the rows so far and those that the cursor has left are all
pub record IsReading (old now : View) (changes : List (Change (List ℕ))) (next : ℕ) : Type 0 where
  pub rows : List Row
  pub left : List Row
  pub at : now.cursors CURSOR ≡ Some left
  pub same : OnlyReads old now
  pub both : rows ++ left ≡ old.trees CHANGE_TREE
  pub changes_are : changes ≡ map change_of rows
  pub below : AreBelow next rows

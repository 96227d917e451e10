-- A checkpoint leaves what is kept.
use Rattle.std.proofs.Common.{◌≡◌, ◌∙◌, ℕ, IsTrue, false, ap, subst, sym}
use Rattle.sqlite_trees.specs.Objects.{catalog_tree}
use Rattle.sqlite_trees.specs.Tree.{Trees}
use Rattle.sqlite_trees.specs.View.{View, IsClean, IsRolledBack}
use Rattle.relay_store.specs.Kept.{Kept}
use Rattle.relay_store.specs.Store.{Only}
use Rattle.relay_store_sqlite.specs.Checkpoint.{Settles}
use Rattle.relay_store_sqlite.specs.Durable.{left_of}
use Rattle.relay_store_sqlite.specs.Table.{AreBelow, IsReady}
use Rattle.relay_store_sqlite.specs.declared.write.TheConstants.{CHANGE_TREE}

-- what a rollback undoes was not committed
pub settled_by : (old new : View) → IsRolledBack old new → IsClean new → IsTrue new.is_open
    → Settles old new
settled_by old new back clean on = record {
  sound = (back.undone on).1;
  undone = (back.undone on).0;
  committed = (back.kept clean).committed on;
  shape = back.shape;
}

-- the store is ready for the next commit
pub ready_settled : (old new : View) (next : ℕ)
    → (old.is_broken ≡ false → old.trees catalog_tree ≡ old.committed catalog_tree
    → (old.shape ≡ old.committed_shape) × (old.reals ≡ old.committed_reals))
    → IsReady old next → Settles old new → IsReady new next
ready_settled old new next unaltered ready settles =
    let same : new.trees ≡ old.trees = settles.undone ∙ sym ready.still in
    let shape =
    settles.shape (unaltered ready.sound (ap (λ trees. trees catalog_tree) ready.still)).0 in
    record {
      sound = settles.sound;
      still = settles.undone ∙ sym settles.committed;
      table = ap (λ shape. shape CHANGE_TREE) shape ∙ ready.table;
      below = subst (λ (trees : Trees). AreBelow next (trees CHANGE_TREE)) (sym same) ready.below;
    }

-- a crash leaves nothing that it could not leave before
pub only_left : {kept : Kept} (before now : Trees → Type 0) → Only kept (left_of before)
    → ((db : Trees) → now db → before db) → Only kept (left_of now)
only_left before now only earlier = λ left may. only left (may.0, earlier may.0 may.1, may.2)

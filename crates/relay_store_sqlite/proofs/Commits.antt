-- A commit of rows keeps what they stand for.
use Rattle.std.proofs.Common.{◌≡◌, ◌⊎◌, ◌∙◌, ℕ, false, List, ap, sym, subst, inl, inr}
use Rattle.sqlite_trees.specs.declared.store.Shape.TheVariants.{Table}
use Rattle.sqlite_trees.specs.Tree.{Trees}
use Rattle.sqlite_trees.specs.View.{View, Commits}
use Rattle.relay_store.specs.declared.change.Change.{Change}
use Rattle.relay_store.specs.Kept.{committed}
use Rattle.relay_store_sqlite.specs.Rows.{kept_in}
use Rattle.relay_store_sqlite.specs.Table.{AreBelow, IsReady, Wrote}
use Rattle.relay_store_sqlite.specs.declared.write.TheConstants.{CHANGE_TREE}

-- what the rows stand for
kept_wrote : (old mid : View) (next : ℕ) (changes : List (Change (List ℕ)))
    → old.trees ≡ old.committed → Wrote old mid next changes
    → kept_in mid.trees ≡ committed (kept_in old.committed) changes
kept_wrote old mid next changes still wrote =
    wrote.kept ∙ ap (λ (trees : Trees). committed (kept_in trees) changes) still

-- the store is ready for the next commit
pub ready_after : (mid new : View) (next : ℕ) → Commits mid new → mid.shape CHANGE_TREE ≡ Table
    → AreBelow next (mid.trees CHANGE_TREE) → IsReady new next
ready_after mid new next commits table below = record {
  sound = ap (λ (v : View). v.is_broken) commits.is ∙ commits.sound;
  still = ap (λ (v : View). v.trees) commits.is ∙ sym (ap (λ (v : View). v.committed) commits.is);
  table = ap (λ (v : View). v.shape CHANGE_TREE) commits.is ∙ table;
  below = subst (AreBelow next) (sym (ap (λ (v : View). v.trees CHANGE_TREE) commits.is)) below;
}

-- what is kept once the rows are committed
pub kept_after : (old mid new : View) (next : ℕ) (changes : List (Change (List ℕ)))
    → old.trees ≡ old.committed → Wrote old mid next changes → Commits mid new
    → kept_in new.committed ≡ committed (kept_in old.committed) changes
kept_after old mid new next changes still wrote commits =
    ap (λ (v : View). kept_in v.committed) commits.is ∙ kept_wrote old mid next changes still wrote

-- what a crash leaves, whether the commit succeeded or failed
pub left_after : (old mid : View) (next : ℕ) (changes : List (Change (List ℕ)))
    (before between : Trees → Type 0) (db : Trees) → old.trees ≡ old.committed
    → Wrote old mid next changes → ((left : Trees) → between left → before left)
    → ((mid.is_broken ≡ false) × (db ≡ mid.trees)) ⊎ between db
    → before db ⊎ (kept_in db ≡ committed (kept_in old.committed) changes)
left_after old mid next changes before between db still wrote earlier (inl made) =
    inr (ap kept_in made.1 ∙ kept_wrote old mid next changes still wrote)
left_after old mid next changes before between db still wrote earlier (inr left) =
    inl (earlier db left)

-- Rows that a change replaces go.
use Rattle.std.proofs.Common.{◌≡◌, ◌∙◌, ℕ, ℤ, true, not, List, filter, ap, sym}
use Rattle.std.proofs.Common.{subst}
use Rattle.std.specs.List.{AllByRecursion}
use Rattle.sqlite_trees.proofs.ListLemmas.{all-filter}
use Rattle.sqlite_trees.specs.Tree.{has_rowid, without_rowid}
use Rattle.sqlite_trees.specs.View.{View, SetsTree}
use Rattle.relay_store.specs.declared.change.Change.{Change}
use Rattle.relay_store.specs.Kept.{begun, changed}
use Rattle.relay_store.specs.Replaced.{is_replaced}
use Rattle.relay_store.proofs.Replaced.{same_without}
use Rattle.relay_store_sqlite.specs.Rows.{change_of, epoch_of, kept_in}
use Rattle.relay_store_sqlite.specs.Table.{AreBelow, MayGo, Spares}
use Rattle.relay_store_sqlite.specs.declared.write.TheConstants.{META_TREE, CHANGE_TREE}

-- no row is gone
pub spares_same : (old new : View) (change : Change (List ℕ)) → new ≡ old → Spares old new change
spares_same old new change same = record {
  kept = ap (λ (v : View). changed (kept_in v.trees) change) same;
  below = λ next below. subst (λ (v : View). AreBelow next (v.trees CHANGE_TREE)) (sym same) below;
  shape = ap (λ (v : View). v.shape) same;
}

-- some rows go, and then more
pub spares_then : (a b c : View) (change : Change (List ℕ)) → Spares a b change
    → Spares b c change → Spares a c change
spares_then a b c change one two = record {
  kept = two.kept ∙ one.kept;
  below = λ next below. two.below next (one.below next below);
  shape = two.shape ∙ one.shape;
}

-- a row goes that the change replaces
pub spares_row : (old mid new : View) (id : ℤ) (change : Change (List ℕ)) → mid ≡ old
    → MayGo (old.trees CHANGE_TREE) id change → SetsTree mid new CHANGE_TREE (without_rowid id)
    → Spares old new change
spares_row old mid new id change same found sets =
    let rows = mid.trees CHANGE_TREE in
    let may : MayGo rows id change =
    subst (λ (v : View). MayGo (v.trees CHANGE_TREE) id change) (sym same) found in
    let all : AllByRecursion (λ r. is_replaced change (change_of r) ≡ true)
    (filter (has_rowid id) rows) =
    subst (AllByRecursion (λ r. is_replaced change (change_of r) ≡ true)) (sym may.1)
    (may.2, tt) in
    spares_then old mid new change (spares_same old mid change same) (record {
      kept = ap (λ (v : View). changed (kept_in v.trees) change) sets.is
          ∙ same_without change_of (has_rowid id) change rows
          (begun (epoch_of (mid.trees META_TREE))) all;
      below = λ next below. subst (AreBelow next)
          (sym (ap (λ (v : View). v.trees CHANGE_TREE) sets.is))
          (all-filter _ (λ r. not (has_rowid id r)) rows below);
      shape = ap (λ (v : View). v.shape) sets.is;
    })

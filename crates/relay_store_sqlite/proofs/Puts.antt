-- Rows of changes, one after the other.
use Rattle.std.proofs.Common.{◌≡◌, ◌∙◌, ◌+◌, ◌<◌, ℕ, List, [], ◌∷◌, ◌++◌, map, take, length}
use Rattle.std.proofs.Common.{get_or, ap, sym, subst, arith, refl}
use Rattle.std.proofs.lemmas.List.{take_more, map-append}
use Rattle.std.specs.List.{AllByRecursion}
use Rattle.std.specs.declared.cmp.Ordering.TheVariants.{Less}
use Rattle.sqlite_value.specs.Order.{value_cmp}
use Rattle.sqlite_trees.specs.Tree.{rowid, put_row}
use Rattle.sqlite_trees.specs.View.{View, SetsTree}
use Rattle.relay_store.specs.declared.change.Change.{Change}
use Rattle.relay_store.specs.declared.change.Change.TheVariants.{Begin, Edit, End, RaiseFloor}
use Rattle.relay_store.specs.declared.change.Change.TheVariants.{LeaveWill, DropWill}
use Rattle.relay_store.specs.Kept.{begun, committed}
use Rattle.relay_store.proofs.Laws.{committed_append, grown}
use Rattle.relay_store_sqlite.specs.Rows.{row_of, change_of, epoch_of, kept_in}
use Rattle.relay_store_sqlite.specs.Table.{AreBelow, Spares, Wrote}
use Rattle.relay_store_sqlite.specs.declared.write.TheConstants.{META_TREE, CHANGE_TREE}
use Rattle.relay_store_sqlite.proofs.Rowids.{rowid_of, put_last, below_next}

change_back : (id : ℕ) (change : Change (List ℕ)) → change_of (row_of id change) ≡ change
change_back id (Begin room revision text) = refl
change_back id (Edit room revision text) = refl
change_back id (End room) = refl
change_back id (RaiseFloor revision) = refl
change_back id (LeaveWill session room text) = refl
change_back id (DropWill session) = refl

-- the row of one more change
wrote_row : (old new : View) (id : ℕ) (change : Change (List ℕ))
    → AreBelow id (old.trees CHANGE_TREE)
    → SetsTree old new CHANGE_TREE (put_row (row_of id change))
    → Wrote old new (id + 1) (change ∷ [])
wrote_row old new id change below sets =
    let row = row_of id change in
    let rows = old.trees CHANGE_TREE in
    let start = begun (epoch_of (old.trees META_TREE)) in
    let all = subst (λ v. AllByRecursion (λ r. value_cmp (rowid r) v ≡ Less) rows)
    (sym (rowid_of id change)) below in
    let put : new.trees CHANGE_TREE ≡ rows ++ row ∷ [] =
    ap (λ (v : View). v.trees CHANGE_TREE) sets.is ∙ put_last row rows all in
    record {
      kept = ap (λ rows. committed (begun (epoch_of rows)) (map change_of (new.trees CHANGE_TREE)))
          (ap (λ (v : View). v.trees META_TREE) sets.is)
          ∙ ap (λ rows. committed start (map change_of rows)) put
          ∙ grown change_of start rows (row ∷ []) (change ∷ [])
          (ap (λ c. c ∷ []) (change_back id change));
      below = subst (AreBelow (id + 1)) (sym put) (below_next id change rows below);
      shape = ap (λ (v : View). v.shape) sets.is;
    }

-- the row of one more change, in place of those that it replaces
pub wrote_one : (old mid new : View) (id : ℕ) (change : Change (List ℕ))
    → AreBelow id (old.trees CHANGE_TREE) → Spares old mid change
    → SetsTree mid new CHANGE_TREE (put_row (row_of id change))
    → Wrote old new (id + 1) (change ∷ [])
wrote_one old mid new id change below spares sets =
    let wrote = wrote_row mid new id change (spares.below id below) sets in
    record {
      kept = wrote.kept ∙ spares.kept;
      below = wrote.below;
      shape = wrote.shape ∙ spares.shape;
    }

-- one turn of the loop over changes
pub wrote_step : {X : Type 0} (text : X → Change (List ℕ)) (xs : List X) (i : ℕ) (d : X)
    (old mid new : View) (next id : ℕ) → i < length xs → id ≡ next + i
    → Wrote old mid (next + i) (map text (take i xs))
    → Wrote mid new (id + 1) (text (get_or xs i d) ∷ [])
    → Wrote old new (next + (i + 1)) (map text (take (i + 1) xs))
wrote_step text xs i d old mid new next id lt is wrote one =
    let done = map text (take i xs) in
    let last = text (get_or xs i d) in
    let start = kept_in old.trees in
    let longer : map text (take (i + 1) xs) ≡ done ++ last ∷ [] =
    ap (map text) (take_more xs i d lt) ∙ map-append text (take i xs) (get_or xs i d ∷ []) in
    record {
      kept = one.kept ∙ ap (λ kept. committed kept (last ∷ [])) wrote.kept
          ∙ sym (committed_append start done (last ∷ [])) ∙ ap (committed start) (sym longer);
      below = subst (λ n. AreBelow n (new.trees CHANGE_TREE)) (omega (arith, is)) one.below;
      shape = one.shape ∙ wrote.shape;
    }

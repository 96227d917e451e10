-- Rowids that rise.
use Rattle.std.proofs.Common.{◌≡◌, ◌∙◌, ◌+◌, ℕ, pos, List, [], ◌∷◌, ◌++◌, ap, arith, refl}
use Rattle.std.proofs.lemmas.Int.{ints}
use Rattle.std.proofs.lemmas.Bool.Decides.{nat_tests}
use Rattle.std.specs.List.{AllByRecursion}
use Rattle.std.specs.declared.cmp.Ordering.TheVariants.{Less}
use Rattle.sqlite_value.specs.declared.value.Value.TheVariants.{Int}
use Rattle.sqlite_value.specs.Order.{Row, value_cmp}
use Rattle.sqlite_value.proofs.OrderLemmas.{value_cmp_total, value_cmp-Int}
use Rattle.sqlite_trees.specs.Tree.{rowid, put_row}
use Rattle.relay_store.specs.declared.change.Change.{Change}
use Rattle.relay_store.specs.declared.change.Change.TheVariants.{Begin, Edit, End, RaiseFloor}
use Rattle.relay_store.specs.declared.change.Change.TheVariants.{LeaveWill, DropWill}
use Rattle.relay_store_sqlite.specs.Rows.{row_of}
use Rattle.relay_store_sqlite.specs.Table.{AreBelow}

pub rowid_of : (id : ℕ) (change : Change (List ℕ)) → rowid (row_of id change) ≡ Int (pos id)
rowid_of id (Begin room revision text) = refl
rowid_of id (Edit room revision text) = refl
rowid_of id (End room) = refl
rowid_of id (RaiseFloor revision) = refl
rowid_of id (LeaveWill session room text) = refl
rowid_of id (DropWill session) = refl

next_id : (id : ℕ) → value_cmp (Int (pos id)) (Int (pos (id + 1))) ≡ Less
next_id id = value_cmp-Int (pos id) (pos (id + 1)) ∙ grind (arith, ints, nat_tests)

-- a row whose rowid is above all goes to the end
pub put_last : (new : Row) (rows : List Row)
    → AllByRecursion (λ r. value_cmp (rowid r) (rowid new) ≡ Less) rows
    → put_row new rows ≡ rows ++ new ∷ []
put_last new [] below = refl
put_last new (r ∷ rows) below = rw below.0 (ap (λ xs. r ∷ xs) (put_last new rows below.1))

-- then the next rowid is above all
pub below_next : (id : ℕ) (change : Change (List ℕ)) (rows : List Row) → AreBelow id rows
    → AreBelow (id + 1) (rows ++ row_of id change ∷ [])
below_next id change [] below =
    (ap (λ v. value_cmp v (Int (pos (id + 1)))) (rowid_of id change) ∙ next_id id, tt)
below_next id change (r ∷ rows) below = (
  value_cmp_total.trans (rowid r) (Int (pos id)) (Int (pos (id + 1))) below.0 (next_id id),
  below_next id change rows below.1,
)

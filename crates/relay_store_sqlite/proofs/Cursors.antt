-- A cursor that goes over the table of changes.
use Rattle.std.proofs.Common.{◌≡◌, ◌∙◌, ◌+◌, ◌≤◌, ◌<◌, ℕ, pos, true, false, List, [], ◌∷◌, ◌++◌}
use Rattle.std.proofs.Common.{map, ap, sym, subst, arith, refl, append_assoc, append-nil}
use Rattle.std.proofs.lemmas.List.{map-append}
use Rattle.std.proofs.lemmas.Int.{ints}
use Rattle.std.proofs.lemmas.Bool.Decides.{nat_tests}
use Rattle.std.specs.declared.cmp.Ordering.TheVariants.{Less}
use Rattle.sqlite_value.specs.declared.keys.Order.{Order}
use Rattle.sqlite_value.specs.declared.value.Value.TheVariants.{Int}
use Rattle.sqlite_value.specs.Order.{Row, value_cmp}
use Rattle.sqlite_value.proofs.OrderLemmas.{value_cmp_total, value_cmp-Int}
use Rattle.sqlite_trees.specs.Tree.{rowid, from_key}
use Rattle.sqlite_trees.specs.View.{View, Advances, with_cursor}
use Rattle.relay_store.specs.declared.change.Change.{Change}
use Rattle.relay_store_sqlite.specs.Rows.{change_of}
use Rattle.relay_store_sqlite.specs.Table.{AreBelow, IsNextRow, IsReading, OnlyReads, WasRead}
use Rattle.relay_store_sqlite.specs.declared.read.TheConstants.{CURSOR}
use Rattle.relay_store_sqlite.specs.declared.write.TheConstants.{CHANGE_TREE}

lower_id : (m n : ℕ) → m < n → value_cmp (Int (pos m)) (Int (pos n)) ≡ Less
lower_id m n h = value_cmp-Int (pos m) (pos n) ∙ grind (arith, ints, nat_tests)

-- a row with the next rowid after those
below_row : (next id : ℕ) (row : Row) (rows : List Row) → rowid row ≡ Int (pos id) → next ≤ id
    → AreBelow next rows → AreBelow (id + 1) (rows ++ row ∷ [])
below_row next id row [] is above below =
    (ap (λ v. value_cmp v (Int (pos (id + 1)))) is ∙ lower_id id (id + 1) (omega arith), tt)
below_row next id row (r ∷ rows) is above below = (
  value_cmp_total.trans (rowid r) (Int (pos next)) (Int (pos (id + 1))) below.0
      (lower_id next (id + 1) (omega arith)),
  below_row next id row rows is above below.1,
)

-- an empty key stands before all entries
pub from_nothing : (order : Order) (rows : List Row) → from_key order [] rows ≡ rows
from_nothing order [] = refl
from_nothing order (r ∷ rows) = refl

-- the cursor gave another row
pub read_step : (old mid new : View) (changes more : List (Change (List ℕ))) (next after : ℕ)
    (row : Row) → IsReading old mid changes next → Advances mid new CURSOR row true
    → more ≡ changes ++ change_of row ∷ [] → IsNextRow next row after
    → IsReading old new more after
read_step old mid new changes more next after row reading gives longer id =
    let same : reading.left ≡ row ∷ gives.0 = cc in
    record {
      rows = reading.rows ++ row ∷ [];
      left = gives.0;
      at = ap (λ (v : View). v.cursors CURSOR) gives.2;
      same = gives.2 ∙ ap (λ (v : View). with_cursor v CURSOR gives.0) reading.same
          ∙ ap (λ cursors. record old { cursors = cursors })
          (sym (ap (λ (v : View). v.cursors) gives.2));
      both = append_assoc reading.rows (row ∷ []) gives.0
          ∙ ap (λ rows. reading.rows ++ rows) (sym same) ∙ reading.both;
      changes_are = longer ∙ ap (λ cs. cs ++ change_of row ∷ []) reading.changes_are
          ∙ sym (map-append change_of reading.rows (row ∷ []));
      below = subst (λ n. AreBelow n (reading.rows ++ row ∷ [])) (sym id.after_is)
          (below_row next id.id row reading.rows id.is id.above reading.below);
    }

-- the cursor is at its end
pub read_end : (old mid new : View) (changes : List (Change (List ℕ))) (next : ℕ) (row : Row)
    → IsReading old mid changes next → Advances mid new CURSOR row false
    → WasRead old new changes next
read_end old mid new changes next row reading gives =
    let none : reading.left ≡ [] = cc in
    let rows : reading.rows ≡ old.trees CHANGE_TREE =
    sym (append-nil reading.rows) ∙ ap (λ left. reading.rows ++ left) (sym none) ∙ reading.both in
    record {
      same = subst (OnlyReads old) (sym gives.1) reading.same;
      all = reading.changes_are ∙ ap (map change_of) rows;
      below = subst (AreBelow next) rows reading.below;
    }

-- the cursor is before all rows
pub read_start : (old new : View) (left : List Row) → new ≡ with_cursor old CURSOR left
    → left ≡ old.trees CHANGE_TREE → IsReading old new [] 1
read_start old new left is all = record {
  rows = [];
  left = left;
  at = ap (λ (v : View). v.cursors CURSOR) is;
  same = is ∙ ap (λ cursors. record old { cursors = cursors })
      (sym (ap (λ (v : View). v.cursors) is));
  both = all;
  changes_are = refl;
  below = tt;
}

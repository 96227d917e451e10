-- Members found by binary search: what it answers is the place in the order of the names.
use Rattle.std.proofs.Common.{◌≡◌, ℕ, zero, suc, ◌<◌, ◌≤◌, ◌+◌, List, [], ◌∷◌, length, Result, Ok}
use Rattle.std.proofs.Common.{Err, Ordering, Less, Equal, Greater, String, Global, string_bytes}
use Rattle.std.proofs.Common.{string_cmp, nat_cmp, slice_get, slice_set, get_or, Some, true, refl}
use Rattle.std.proofs.Common.{sym, ap, ◌∙◌, arith}
use Rattle.std.proofs.lemmas.Cmp.{nat_list_cmp_total}
use Rattle.std.proofs.lemmas.List.Sorted.{searchable_from_sorted}
use Rattle.std.specs.Cmp.Lexicographic.{slice_cmp}
use Rattle.std.specs.List.{AllByRecursion, AllWithin, HoldsAt}
use Rattle.std.specs.List.Sorted.{IsStrictlySortedBy, IsSortedBy, IsBinarySearchResult}
use Rattle.std.specs.List.Sorted.{IsSearchInRange}
use Rattle.std.specs.Map.{keys_of, values_of}
use Rattle.std.specs.Ordering.{ordering_reverse, is_le, is_lt, match_ordering}
use Rattle.std.specs.List.{remove}
use Rattle.std_collections.specs.Layout.BTreeMap.{seek, one_further}
use Rattle.std_collections.specs.Layout.Columns.{set_value_at}
use Rattle.std_collections.proofs.Entries.{keys_set_value_at}
use Rattle.std_collections.proofs.Seek.{AboveFirst, AnswersAt}
use Rattle.relay_tree.specs.Entries.{compared, order_to, IsAscending}

-- `seek` finds the place if the query is above all before it and answers there.

module _ {K X : Type 0} (compare : K → Ordering) where
  stepped : (e : K × X) (es : List (K × X)) (r : Ordering) → compare e.0 ≡ r
      → seek compare (e ∷ es) ≡ match_ordering r (Err 0) (Ok 0) (one_further (seek compare es))
  stepped e es r h = ap (λ o. match_ordering o (Err 0) (Ok 0) (one_further (seek compare es))) h

  sought_there : (es : List (K × X)) (i : ℕ) → i < length es → AboveFirst compare es i
      → AnswersAt compare es i Equal → seek compare es ≡ Ok i
  sought_there [] i l a b = absurd (omega arith)
  sought_there (e ∷ es) zero l a b = stepped e es Equal b
  sought_there (e ∷ es) (suc i) l a b =
      stepped e es Greater a.0 ∙ ap one_further (sought_there es i (omega arith) a.1 b)

  sought_between : (es : List (K × X)) (i : ℕ) → i ≤ length es → AboveFirst compare es i
      → AnswersAt compare es i Less → seek compare es ≡ Err i
  sought_between [] zero l a b = refl
  sought_between [] (suc i) l a b = absurd (omega arith)
  sought_between (e ∷ es) zero l a b = stepped e es Less b
  sought_between (e ∷ es) (suc i) l a b =
      stepped e es Greater a.0 ∙ ap one_further (sought_between es i (omega arith) a.1 b)

-- The question that the search asks of each entry, and the comparison of the name to it.

module _ {V : Type 0} (name : List ℕ) where
  turned : (e : String Global × V) (o : Ordering) → order_to name e ≡ o
      → compared name e.0 ≡ ordering_reverse o
  turned e o h = nat_list_cmp_total.antisymm name (string_bytes e.0) ∙ ap ordering_reverse h

  answers : (es : List (String Global × V)) (i : ℕ) (o : Ordering)
      → (i < length es → HoldsAt (λ e. order_to name e ≡ o) es i)
      → AnswersAt (compared name) es i (ordering_reverse o)
  answers [] i o h = tt
  answers (e ∷ es) zero o h = turned e o (h (omega arith) e)
  answers (e ∷ es) (suc i) o h = answers es i o (λ l d. h (omega arith) d)

  above_all : (es : List (String Global × V)) (i : ℕ) → i ≤ length es
      → AllWithin (λ e. order_to name e ≡ Less) es 0 i → AboveFirst (compared name) es i
  above_all es zero l h = tt
  above_all [] (suc i) l h = absurd (omega arith)
  above_all (e ∷ es) (suc i) l h = (
    turned e Less (h 0 e (omega arith) (omega arith)),
    above_all es i (omega arith) (λ k d a b. h (suc k) d (omega arith) (omega arith)),
  )

  -- a name that stands further on is above one that is below all of those
  above_one : (k : String Global) (es : List (String Global × V)) (i : ℕ) → i < length es
      → AllByRecursion (λ y. string_cmp k y ≡ Less) (keys_of es)
      → AnswersAt (compared name) es i Equal → compared name k ≡ Greater
  above_one k [] i l h b = absurd (omega arith)
  above_one k (e ∷ es) zero l h b =
      nat_list_cmp_total.congr name (string_bytes e.0) (string_bytes k) b
      ∙ (nat_list_cmp_total.antisymm (string_bytes e.0) (string_bytes k) ∙ ap ordering_reverse h.0)
  above_one k (e ∷ es) (suc i) l h b = above_one k es i (omega arith) h.1 b

  above_first : (es : List (String Global × V)) (i : ℕ) → i < length es → IsAscending es
      → AnswersAt (compared name) es i Equal → AboveFirst (compared name) es i
  unfolding IsStrictlySortedBy
  above_first [] i l s b = absurd (omega arith)
  above_first (e ∷ es) zero l s b = tt
  above_first (e ∷ es) (suc i) l s b =
      (above_one e.0 es i (omega arith) s.0 b, above_first es i (omega arith) s.1 b)

  -- ascending names are sorted, as the search wants them
  sorted : (es : List (String Global × V)) → IsAscending es
      → IsSortedBy (λ a b. is_lt (slice_cmp nat_cmp (string_bytes a.0) (string_bytes b.0))) es
  unfolding IsStrictlySortedBy
  sorted [] s k d from l = absurd (omega arith)
  sorted (e ∷ []) s k d from l = absurd (omega arith)
  sorted (e ∷ f ∷ es) s zero d from l =
      ap is_lt (nat_list_cmp_total.antisymm (string_bytes f.0) (string_bytes e.0)
      ∙ ap ordering_reverse s.0.0)
  sorted (e ∷ f ∷ es) s (suc k) d from l =
      let next : suc k + 1 ≡ suc (k + 1) = omega arith in
      rw next (sorted (f ∷ es) s.1 k d (omega arith) (omega arith))

  pub sought : (es : List (String Global × V)) (r : Result ℕ ℕ) → IsAscending es
      → IsSearchInRange r (length es) → IsBinarySearchResult (order_to name) es r
      → r ≡ seek (compared name) es
  sought es (Ok i) s l h =
      let there = answers es i Equal (λ _. h) in
      sym (sought_there (compared name) es i l (above_first es i l s there) there)
  sought es (Err i) s l h =
      let split = h
      (searchable_from_sorted nat_list_cmp_total (λ e. string_bytes e.0) es name
      (sorted es s)) in
      sym (sought_between (compared name) es i l (above_all es i l split.0)
      (answers es i Greater (λ m d. split.1 i d (omega arith) m)))

-- The value at a place, and none in a gap.

module _ {V : Type 0} where
  pub value_there : (es : List (String Global × V)) (i : ℕ) (e : String Global × V) → i < length es
      → e ≡ get_or es i e → slice_get (values_of es) i ≡ Some e.1
  value_there [] i e l is = absurd (omega arith)
  value_there (f ∷ es) zero e l is = ap (λ x. Some x.1) (sym is)
  value_there (f ∷ es) (suc i) e l is = value_there es i e (omega arith) is

-- a name that is not above a member's is below that of each member after it
pub below : (name : List ℕ) (x y : String Global) → is_le (compared name x) ≡ true
    → string_cmp x y ≡ Less → compared name y ≡ Less
below name x y le less = go (compared name x) refl le
  where
    go : (o : Ordering) → compared name x ≡ o → is_le o ≡ true → compared name y ≡ Less
    go Less is h = nat_list_cmp_total.trans name (string_bytes x) (string_bytes y) is less
    go Equal is h = nat_list_cmp_total.congr name (string_bytes x) (string_bytes y) is ∙ less
    go Greater is h = absurd cc

-- The value there after a change.

module _ {V : Type 0} where
  pub set_there : (es : List (String Global × V)) (i : ℕ) (e : String Global × V) (w : V)
      → i < length es → e ≡ get_or es i e → slice_set es i (e.0, w) ≡ set_value_at es i w
  set_there [] i e w l is = absurd (omega arith)
  set_there (f ∷ es) zero e w l is = ap (λ x. (x.0, w) ∷ es) is
  set_there (f ∷ es) (suc i) e w l is = ap (λ rest. f ∷ rest) (set_there es i e w (omega arith) is)

  pub set_ascending : (es : List (String Global × V)) (i : ℕ) (e : String Global × V) (w : V)
      → i < length es → e ≡ get_or es i e → IsAscending es → IsAscending (slice_set es i (e.0, w))
  set_ascending es i e w l is s = rw (set_there es i e w l is) (rw (keys_set_value_at es i w) s)

  below_left : (k : String Global) (es : List (String Global × V)) (i : ℕ)
      → AllByRecursion (λ y. string_cmp k y ≡ Less) (keys_of es)
      → AllByRecursion (λ y. string_cmp k y ≡ Less) (keys_of (remove es i))
  below_left k [] zero h = tt
  below_left k [] (suc i) h = tt
  below_left k (e ∷ es) zero h = h.1
  below_left k (e ∷ es) (suc i) h = (h.0, below_left k es i h.1)

  pub left_ascending : (es : List (String Global × V)) (i : ℕ) → IsAscending es
      → IsAscending (remove es i)
  unfolding IsStrictlySortedBy
  left_ascending [] zero s = tt
  left_ascending [] (suc i) s = tt
  left_ascending (e ∷ es) zero s = s.1
  left_ascending (e ∷ es) (suc i) s = (below_left e.0 es i s.0, left_ascending es i s.1)

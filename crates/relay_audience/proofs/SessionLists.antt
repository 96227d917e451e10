-- The numbers of sessions: an insertion and a removal at the place that a binary search finds keep
-- them in order, and change nothing but the one number.
use Rattle.std.proofs.Common.{◌≡◌, ◌≢◌, ◌∙◌, ℕ, zero, suc, ◌<◌, ◌≤◌, ◌==◌, Bool, true, false}
use Rattle.std.proofs.Common.{List, [], ◌∷◌, ◌||◌, ◌&&◌, not, length, get_or, refl, sym, ap, arith}
use Rattle.std.proofs.Common.{nat_eq, nat_lt, cond, inl, inr}
use Rattle.std.specs.List.{insert, remove, list_any}
use Rattle.std.proofs.Common.{Ok, Err, nat_cmp, subst}
use Rattle.std.specs.List.Sorted.{IsBinarySearchResult}
use Rattle.std.proofs.lemmas.Bool.{cases_lt}
use Rattle.std.proofs.lemmas.Bool.Decides.{nat_tests}
use Rattle.std.proofs.lemmas.List.Sorted.{searched}
use Rattle.relay_audience.specs.Sessions.{inserted, removed, is_empty, AreAbove, IsRising}

pub above_at : (x : ℕ) (xs : List ℕ) (k : ℕ) → AreAbove x xs → k < length xs → x < get_or xs k 0
above_at x [] k h within = absurd (omega (arith, within))
above_at x (y ∷ ys) zero h within = h.0
above_at x (y ∷ ys) (suc k) h within = above_at x ys k h.1 (omega (arith, within))

pub not_falling : (xs : List ℕ) → IsRising xs → (i j : ℕ) → i ≤ j → j < length xs
    → get_or xs i 0 ≤ get_or xs j 0
not_falling [] h i j le within = absurd (omega (arith, within))
not_falling (x ∷ xs) h zero zero le within = omega arith
not_falling (x ∷ xs) h zero (suc j) le within =
    let above = above_at x xs j h.0 (omega (arith, within)) in omega (arith, above)
not_falling (x ∷ xs) h (suc i) zero le within = absurd (omega (arith, le))
not_falling (x ∷ xs) h (suc i) (suc j) le within =
    not_falling xs h.1 i j (omega (arith, le)) (omega (arith, within))

-- ---- an insertion

pub insert_place : (xs : List ℕ) (i s : ℕ) → i ≤ length xs
    → ((k : ℕ) → k < i → get_or xs k 0 < s)
    → ((k : ℕ) → i ≤ k → k < length xs → s < get_or xs k 0) → insert xs i s ≡ inserted s xs
insert_place [] zero s le low high = refl
insert_place [] (suc i) s le low high = absurd (omega (arith, le))
insert_place (x ∷ xs) zero s le low high =
    let first : s < x = high 0 (omega arith) (omega arith) in
    let is : nat_lt s x ≡ true = grind (arith, nat_tests, first) in
    rw is refl
insert_place (x ∷ xs) (suc i) s le low high =
    let first : x < s = low 0 (omega arith) in
    let below : nat_lt s x ≡ false = grind (arith, nat_tests, first) in
    let other : (s == x) ≡ false = grind (arith, nat_tests, first) in
    rw (below, other)
    (ap (λ ys. x ∷ ys) (insert_place xs i s (omega (arith, le)) (λ k less.
    low (suc k) (omega (arith, less))) (λ k from within.
    high (suc k) (omega (arith, from)) (omega (arith, within)))))

pub insert_there : (xs : List ℕ) (i s : ℕ) → IsRising xs → i < length xs → get_or xs i 0 ≡ s
    → inserted s xs ≡ xs
insert_there [] i s h within is = absurd (omega (arith, within))
insert_there (x ∷ xs) zero s h within is =
    let below : nat_lt s x ≡ false = grind (arith, nat_tests, is) in
    let same : (s == x) ≡ true = grind (arith, nat_tests, is) in
    rw (below, same) refl
insert_there (x ∷ xs) (suc i) s h within is =
    let first = above_at x xs i h.0 (omega (arith, within)) in
    let less : x < s = omega (arith, first, is) in
    let below : nat_lt s x ≡ false = grind (arith, nat_tests, less) in
    let other : (s == x) ≡ false = grind (arith, nat_tests, less) in
    rw (below, other) (ap (λ ys. x ∷ ys) (insert_there xs i s h.1 (omega (arith, within)) is))

above_inserted : (x s : ℕ) (xs : List ℕ) → AreAbove x xs → x < s → AreAbove x (inserted s xs)
above_inserted x s [] h less = (less, tt)
above_inserted x s (y ∷ ys) h less = go (nat_lt s y) (s == y) (above_inserted x s ys h.1 less)
  where
    go : (b c : Bool) → AreAbove x (inserted s ys)
        → AreAbove x (cond b (s ∷ y ∷ ys) (cond c (y ∷ ys) (y ∷ inserted s ys)))
    go true c rest = (less, h)
    go false true rest = h
    go false false rest = (h.0, rest)

pub above_more : (x y : ℕ) (xs : List ℕ) → x < y → AreAbove y xs → AreAbove x xs
above_more x y [] less h = tt
above_more x y (z ∷ zs) less h = (omega (arith, less, h.0), above_more x y zs less h.1)

pub inserted_rises : (s : ℕ) (xs : List ℕ) → IsRising xs → IsRising (inserted s xs)
inserted_rises s [] h = (tt, tt)
inserted_rises s (x ∷ xs) h = go (nat_lt s x) (s == x) refl refl (inserted_rises s xs h.1)
  where
    go : (b c : Bool) → nat_lt s x ≡ b → (s == x) ≡ c → IsRising (inserted s xs)
        → IsRising (cond b (s ∷ x ∷ xs) (cond c (x ∷ xs) (x ∷ inserted s xs)))
    go true c is same rest =
        let less : s < x = grind (arith, nat_tests) in
        ((less, above_more s x xs less h.0), h)
    go false true is same rest = h
    go false false is same rest =
        let less : x < s = grind (arith, nat_tests) in
        (above_inserted x s xs h.0 less, rest)

pub inserted_any : (s t : ℕ) (xs : List ℕ)
    → list_any (nat_eq t) (inserted s xs) ≡ ((t == s) || list_any (nat_eq t) xs)
inserted_any s t [] = refl
inserted_any s t (x ∷ xs) = go (nat_lt s x) (s == x) refl (inserted_any s t xs)
  where
    past : (a b c : Bool) → (a || (b || c)) ≡ (b || (a || c))
    past true true c = refl
    past true false c = refl
    past false b c = refl

    again : (a c : Bool) → (a || c) ≡ (a || (a || c))
    again true c = refl
    again false c = refl

    go : (b c : Bool) → (s == x) ≡ c
        → list_any (nat_eq t) (inserted s xs) ≡ ((t == s) || list_any (nat_eq t) xs)
        → list_any (nat_eq t) (cond b (s ∷ x ∷ xs) (cond c (x ∷ xs) (x ∷ inserted s xs)))
        ≡ ((t == s) || ((t == x) || list_any (nat_eq t) xs))
    go true c is rest = refl
    go false true is rest =
        let same : s ≡ x = grind (arith, nat_tests) in
        rw same (again (t == x) (list_any (nat_eq t) xs))
    go false false is rest =
        ap (λ b. (t == x) || b) rest ∙ past (t == x) (t == s) (list_any (nat_eq t) xs)

pub inserted_filled : (s : ℕ) (xs : List ℕ) → is_empty (inserted s xs) ≡ false
inserted_filled s [] = refl
inserted_filled s (x ∷ xs) = go (nat_lt s x) (s == x)
  where
    go : (b c : Bool)
        → is_empty (cond b (s ∷ x ∷ xs) (cond c (x ∷ xs) (x ∷ inserted s xs))) ≡ false
    go true c = refl
    go false true = refl
    go false false = refl

-- ---- a removal

pub removed_absent : (s : ℕ) (xs : List ℕ) → list_any (nat_eq s) xs ≡ false → removed s xs ≡ xs
removed_absent s [] h = refl
removed_absent s (x ∷ xs) h = go (s == x) h (removed_absent s xs)
  where
    go : (b : Bool) → (b || list_any (nat_eq s) xs) ≡ false
        → (list_any (nat_eq s) xs ≡ false → removed s xs ≡ xs)
        → cond b (removed s xs) (x ∷ removed s xs) ≡ x ∷ xs
    go true k rest = cc
    go false k rest = ap (λ ys. x ∷ ys) (rest k)

above_absent : (s : ℕ) (xs : List ℕ) → AreAbove s xs → list_any (nat_eq s) xs ≡ false
above_absent s [] h = refl
above_absent s (x ∷ xs) h =
    let other : (s == x) ≡ false = grind (arith, nat_tests, h.0) in
    rw other (above_absent s xs h.1)

pub other_absent : (s : ℕ) (xs : List ℕ)
    → ((k : ℕ) → k < length xs → get_or xs k 0 ≢ s) → list_any (nat_eq s) xs ≡ false
other_absent s [] h = refl
other_absent s (x ∷ xs) h =
    let other : (s == x) ≡ false = grind (arith, nat_tests, h 0 (omega arith)) in
    rw other (other_absent s xs (λ k within. h (suc k) (omega (arith, within))))

pub removed_there : (xs : List ℕ) (i s : ℕ) → IsRising xs → i < length xs → get_or xs i 0 ≡ s
    → remove xs i ≡ removed s xs
removed_there [] i s h within is = absurd (omega (arith, within))
removed_there (x ∷ xs) zero s h within is =
    let same : (s == x) ≡ true = grind (arith, nat_tests, is) in
    let above : AreAbove s xs = rw (sym is) h.0 in
    rw same (sym (removed_absent s xs (above_absent s xs above)))
removed_there (x ∷ xs) (suc i) s h within is =
    let first = above_at x xs i h.0 (omega (arith, within)) in
    let less : x < s = omega (arith, first, is) in
    let other : (s == x) ≡ false = grind (arith, nat_tests, less) in
    rw other (ap (λ ys. x ∷ ys) (removed_there xs i s h.1 (omega (arith, within)) is))

above_removed : (x s : ℕ) (xs : List ℕ) → AreAbove x xs → AreAbove x (removed s xs)
above_removed x s [] h = tt
above_removed x s (y ∷ ys) h = go (s == y) (above_removed x s ys h.1)
  where
    go : (b : Bool) → AreAbove x (removed s ys)
        → AreAbove x (cond b (removed s ys) (y ∷ removed s ys))
    go true rest = rest
    go false rest = (h.0, rest)

pub removed_rises : (s : ℕ) (xs : List ℕ) → IsRising xs → IsRising (removed s xs)
removed_rises s [] h = tt
removed_rises s (x ∷ xs) h = go (s == x) (removed_rises s xs h.1)
  where
    go : (b : Bool) → IsRising (removed s xs) → IsRising (cond b (removed s xs) (x ∷ removed s xs))
    go true rest = rest
    go false rest = (above_removed x s xs h.0, rest)

pub removed_any : (s t : ℕ) (xs : List ℕ)
    → list_any (nat_eq t) (removed s xs) ≡ (not (t == s) && list_any (nat_eq t) xs)
removed_any s t [] = none (not (t == s))
  where
    none : (b : Bool) → false ≡ (b && false)
    none true = refl
    none false = refl
removed_any s t (x ∷ xs) = go (s == x) refl (removed_any s t xs)
  where
    same : (a c : Bool) → (not a && c) ≡ (not a && (a || c))
    same true c = refl
    same false c = refl

    other : (a b c : Bool) → (a ≡ true → b ≡ true) → (a || (b && c)) ≡ (b && (a || c))
    other true b c h = rw (h refl) refl
    other false b c h = refl

    go : (b : Bool) → (s == x) ≡ b
        → list_any (nat_eq t) (removed s xs) ≡ (not (t == s) && list_any (nat_eq t) xs)
        → list_any (nat_eq t) (cond b (removed s xs) (x ∷ removed s xs))
        ≡ (not (t == s) && ((t == x) || list_any (nat_eq t) xs))
    go true is rest =
        let e : s ≡ x = grind (arith, nat_tests) in
        rest ∙ rw e (same (t == x) (list_any (nat_eq t) xs))
    go false is rest =
        ap (λ b. (t == x) || b) rest
        ∙ other (t == x) (not (t == s)) (list_any (nat_eq t) xs) (λ at. grind (arith, nat_tests))

any_at : (xs : List ℕ) (i s : ℕ) → i < length xs → get_or xs i 0 ≡ s
    → list_any (nat_eq s) xs ≡ true
any_at [] i s within is = absurd (omega (arith, within))
any_at (x ∷ xs) zero s within is =
    let same : (s == x) ≡ true = grind (arith, nat_tests, is) in
    rw same refl
any_at (x ∷ xs) (suc i) s within is =
    let rest = any_at xs i s (omega (arith, within)) is in
    either (s == x) (list_any (nat_eq s) xs) rest
  where
    either : (b c : Bool) → c ≡ true → (b || c) ≡ true
    either true c h = refl
    either false c h = h

-- ---- what a binary search finds

module _ (xs ys : List ℕ) (s i : ℕ) (same : ys ≡ xs) (h : IsRising xs) where
  pub found : IsBinarySearchResult (λ y. nat_cmp y s) ys (Ok i)
      → (i < length xs) × (get_or xs i 0 ≡ s)
  found is =
      searched xs s (Ok i)
      (subst (λ zs. IsBinarySearchResult (λ y. nat_cmp y s) zs (Ok i)) same is) (not_falling xs h)

  pub inserted_found : IsBinarySearchResult (λ y. nat_cmp y s) ys (Ok i) → xs ≡ inserted s xs
  inserted_found is = let at = found is in sym (insert_there xs i s h at.0 at.1)

  pub there_found : IsBinarySearchResult (λ y. nat_cmp y s) ys (Ok i)
      → list_any (nat_eq s) xs ≡ true
  there_found is = let at = found is in any_at xs i s at.0 at.1

  pub removed_found : IsBinarySearchResult (λ y. nat_cmp y s) ys (Ok i)
      → remove xs i ≡ removed s xs
  removed_found is = let at = found is in removed_there xs i s h at.0 at.1

  missing : IsBinarySearchResult (λ y. nat_cmp y s) ys (Err i)
      → (i ≤ length xs) × ((k : ℕ) → k < i → get_or xs k 0 < s)
      × ((k : ℕ) → i ≤ k → k < length xs → s < get_or xs k 0)
  missing is =
      searched xs s (Err i)
      (subst (λ zs. IsBinarySearchResult (λ y. nat_cmp y s) zs (Err i)) same is) (not_falling xs h)

  pub inserted_missing : IsBinarySearchResult (λ y. nat_cmp y s) ys (Err i)
      → insert xs i s ≡ inserted s xs
  inserted_missing is = let at = missing is in insert_place xs i s at.0 at.1 at.2

  pub absent_missing : IsBinarySearchResult (λ y. nat_cmp y s) ys (Err i)
      → list_any (nat_eq s) xs ≡ false
  absent_missing is =
      let at = missing is in
      other_absent s xs (λ k within e.
      elim (cases_lt k i) [
        | inl less ↦ let low = at.1 k less in absurd (omega (arith, low, e))
        | inr late ↦ let high = at.2 k late within in absurd (omega (arith, high, e))
      ])

  pub removed_missing : IsBinarySearchResult (λ y. nat_cmp y s) ys (Err i) → xs ≡ removed s xs
  removed_missing is = sym (removed_absent s xs (absent_missing is))

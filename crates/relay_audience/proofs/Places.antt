-- The place of an audience by its number, and a change there.
use Rattle.std.proofs.Common.{◌≡◌, ◌≢◌, ◌∙◌, ℕ, zero, suc, ◌+◌, ◌<◌, ◌≤◌, ◌==◌, Bool, true, false}
use Rattle.std.proofs.Common.{cond, List, [], ◌∷◌, ◌++◌, Option, Some, None, IsSome, refl, sym, ap}
use Rattle.std.proofs.Common.{subst, arith, length, get_or, nat_lt, slice_set}
use Rattle.std.proofs.Common.{option_map, inl, inr}
use Rattle.std.specs.List.{remove}
use Rattle.std.specs.List.Sorted.{IsPartitionPoint, IsNonDecreasingBy}
use Rattle.std.proofs.lemmas.Bool.{cases_lt}
use Rattle.std.proofs.lemmas.Bool.Decides.{nat_tests}
use Rattle.relay_view.specs.View.{View}
use Rattle.relay_audience.specs.Sessions.{is_empty}
use Rattle.relay_audience.specs.ViewOrder.{same_view}
use Rattle.relay_audience.specs.declared.audience.Audience.{Audience}
use Rattle.relay_audience.specs.Audiences.{joined, kept, less_session, next_number, numbered}
use Rattle.relay_audience.specs.Audiences.{with_session}
use Rattle.relay_audience.specs.Table.{keys, number_in, view_in, dropped, AreAfter, IsInOrder}
use Rattle.relay_audience.specs.Table.{place, changed_at, left_at, parted}
use Rattle.relay_audience.proofs.KeyLists.{AreBefore, before_more, found_after}
use Rattle.relay_audience.proofs.Views.{view_is}

-- ---- numbers by place

after_at : (n : ℕ) (xs : List Audience) (j : ℕ) (d : Audience) → AreAfter n (keys xs)
    → j < length xs → n < (get_or xs j d).number
after_at n [] j d h within = absurd (omega (arith, within))
after_at n (a ∷ xs) zero d h within = h.0
after_at n (a ∷ xs) (suc j) d h within = after_at n xs j d h.1 (omega (arith, within))

rises_at : (xs : List Audience) → IsInOrder (keys xs) → (i j : ℕ) (d : Audience) → i < j
    → j < length xs → (get_or xs i d).number < (get_or xs j d).number
rises_at [] h i j d less within = absurd (omega (arith, within))
rises_at (a ∷ xs) h i zero d less within = absurd (omega (arith, less))
rises_at (a ∷ xs) h zero (suc j) d less within =
    after_at a.number xs j d h.0 (omega (arith, within))
rises_at (a ∷ xs) h (suc i) (suc j) d less within =
    rises_at xs h.1 i j d (omega (arith, less)) (omega (arith, within))

pub not_falling : (xs : List Audience) → IsInOrder (keys xs) → IsNonDecreasingBy (λ a. a.number) xs
not_falling xs h i j d le within =
    elim (cases_lt i j) [
      | inl less ↦ let rises = rises_at xs h i j d less within in omega (arith, rises)
      | inr same ↦ let e : i ≡ j = omega (arith, le, same) in
          subst (λ k. (get_or xs i d).number ≤ (get_or xs k d).number) e (omega arith)
    ]

-- ---- the place of a number

first_place : (xs : List Audience) (n i : ℕ) (d : Audience)
    → ((k : ℕ) → k < i → (get_or xs k d).number < n) → i < length xs → (get_or xs i d).number ≡ n
    → place n xs ≡ Some i
first_place [] n i d below within is = absurd (omega (arith, within))
first_place (a ∷ xs) n zero d below within is =
    let same : (a.number == n) ≡ true = grind (arith, nat_tests, is) in
    rw same refl
first_place (a ∷ xs) n (suc i) d below within is =
    let first : a.number < n = below 0 (omega arith) in
    let other : (a.number == n) ≡ false = grind (arith, nat_tests, first) in
    rw other (ap (option_map suc) (first_place xs n i d (λ k less.
    below (suc k) (omega (arith, less))) (omega (arith, within)) is))

no_place : (xs : List Audience) (n : ℕ) (d : Audience)
    → ((k : ℕ) → k < length xs → (get_or xs k d).number ≢ n) → place n xs ≡ None
no_place [] n d h = refl
no_place (a ∷ xs) n d h =
    let other : (a.number == n) ≡ false = grind (arith, nat_tests, h 0 (omega arith)) in
    rw other (ap (option_map suc) (no_place xs n d (λ k within. h (suc k) (omega (arith, within)))))

abbrev pub IsPoint : ℕ → List Audience → ℕ → Type 0
IsPoint n xs i =
    IsPartitionPoint (λ a. nat_lt a.number n ≡ true) (λ a. nat_lt a.number n ≡ false) xs i

module _ (xs : List Audience) (n i : ℕ) (point : IsPoint n xs i) where
  before : (d : Audience) (k : ℕ) → k < i → (get_or xs k d).number < n
  before d k less = let low = point.0 k d (omega arith) less in grind (arith, nat_tests, low)

  pub found : (d : Audience) → i < length xs → (get_or xs i d).number ≡ n → place n xs ≡ Some i
  found d within is = first_place xs n i d (before d) within is

  pub found_other : (d : Audience) → IsInOrder (keys xs) → i < length xs
      → (get_or xs i d).number ≢ n → place n xs ≡ None
  found_other d h inside other = no_place xs n d (λ k within is.
      elim (cases_lt k i) [
        | inl less ↦ let low = before d k less in absurd (omega (arith, low, is))
        | inr late ↦
            elim (cases_lt i k) [
              | inl less ↦
                  let rises = rises_at xs h i k d less within in
                  let high = point.1 i d (omega arith) inside in
                  absurd (grind (arith, nat_tests, rises, high, is))
              | inr same ↦
                  let e : k ≡ i = omega (arith, late, same) in
                  other (subst (λ j. (get_or xs j d).number ≡ n) e is)
            ]
      ])

  past_all : (d : Audience) → length xs ≤ i → place n xs ≡ None
  past_all d past = no_place xs n d (λ k within is.
      let low = before d k (omega (arith, past, within)) in absurd (omega (arith, low, is)))

pub found_past : (xs : List Audience) (n i : ℕ) → IsPoint n xs i → length xs ≤ i
    → place n xs ≡ None
found_past [] n i point past = refl
found_past (a ∷ xs) n i point past = past_all (a ∷ xs) n i point a past

pub numbered_none : (n : ℕ) (xs : List Audience) → place n xs ≡ None → numbered n xs ≡ None
numbered_none n [] e = refl
numbered_none n (a ∷ xs) e = go (a.number == n) (place n xs) refl e (numbered_none n xs)
  where
    go : (b : Bool) (o : Option ℕ) → place n xs ≡ o
        → cond b (Some 0) (option_map suc o) ≡ None
        → (place n xs ≡ None → numbered n xs ≡ None) → cond b (Some a) (numbered n xs) ≡ None
    go true o is h rest = cc
    go false None is h rest = rest is
    go false (Some k) is h rest = cc

-- ---- a change at a place

-- what holds at a place holds at the one before, in the rest of the list
abbrev pub At : ℕ → List Audience → ℕ → Type 0
At n xs i = place n xs ≡ Some i

-- the place is the first one or, in the rest, the one before
rest_place : (P : ℕ → Type 0) (n : ℕ) (a : Audience) (xs : List Audience) (i : ℕ)
    → At n (a ∷ xs) i → ((a.number == n) ≡ true → P 0)
    → ((k : ℕ) → (a.number == n) ≡ false → At n xs k → P (suc k)) → P i
rest_place P n a xs i e first later = go (a.number == n) (place n xs) refl refl e
  where
    go : (b : Bool) (o : Option ℕ) → (a.number == n) ≡ b → place n xs ≡ o
        → cond b (Some 0) (option_map suc o) ≡ Some i → P i
    go true o is at h = let here : 0 ≡ i = cc in subst P here (first is)
    go false None is at h = cc
    go false (Some k) is at h = let here : suc k ≡ i = cc in subst P here (later k is at)

-- the place that was found in the same list
pub placed : (n : ℕ) (xs ys : List Audience) (i : ℕ) → Some i ≡ place n ys → ys ≡ xs → At n xs i
placed n xs ys i e same = sym (e ∙ ap (place n) same)

pub within_place : (n : ℕ) (xs : List Audience) (i : ℕ) → At n xs i → i < length xs
within_place n [] i e = cc
within_place n (a ∷ xs) i e =
    rest_place (λ i. i < length (a ∷ xs)) n a xs i e (λ is. omega arith) (λ k is at.
    let inside = within_place n xs k at in omega (arith, inside))

pub at_numbered : (n : ℕ) (xs : List Audience) (i : ℕ) (d : Audience) → At n xs i
    → numbered n xs ≡ Some (get_or xs i d)
at_numbered n [] i d e = cc
at_numbered n (a ∷ xs) i d e =
    rest_place (λ i. numbered n (a ∷ xs) ≡ Some (get_or (a ∷ xs) i d)) n a xs i e
    (λ is. rw is refl) (λ k is at. rw is (at_numbered n xs k d at))

pub set_at : (n : ℕ) (change : Audience → Audience) (xs : List Audience) (i : ℕ) (d : Audience)
    → At n xs i → slice_set xs i (change (get_or xs i d)) ≡ changed_at n change xs
set_at n change [] i d e = cc
set_at n change (a ∷ xs) i d e =
    rest_place (λ i. slice_set (a ∷ xs) i (change (get_or (a ∷ xs) i d))
    ≡ changed_at n change (a ∷ xs)) n a xs i e (λ is. rw is refl)
    (λ k is at. rw is (ap (λ bs. a ∷ bs) (set_at n change xs k d at)))

pub left_set : (n s : ℕ) (xs : List Audience) (i : ℕ) (d : Audience) → At n xs i
    → is_empty (less_session s (get_or xs i d)).sessions ≡ false
    → slice_set xs i (less_session s (get_or xs i d)) ≡ left_at n s xs
left_set n s [] i d e filled = cc
left_set n s (a ∷ xs) i d e filled =
    rest_place (λ i. is_empty (less_session s (get_or (a ∷ xs) i d)).sessions ≡ false
    → slice_set (a ∷ xs) i (less_session s (get_or (a ∷ xs) i d)) ≡ left_at n s (a ∷ xs))
    n a xs i e (λ is full. rw (is, full) refl)
    (λ k is at full. rw is (ap (λ bs. a ∷ bs) (left_set n s xs k d at full))) filled

pub left_remove : (n s : ℕ) (xs : List Audience) (i : ℕ) (d b : Audience) → At n xs i
    → is_empty (less_session s (get_or xs i d)).sessions ≡ true
    → remove (slice_set xs i b) i ≡ left_at n s xs
left_remove n s [] i d b e empty = cc
left_remove n s (a ∷ xs) i d b e empty =
    rest_place (λ i. is_empty (less_session s (get_or (a ∷ xs) i d)).sessions ≡ true
    → remove (slice_set (a ∷ xs) i b) i ≡ left_at n s (a ∷ xs))
    n a xs i e (λ is gone. rw (is, gone) refl)
    (λ k is at gone. rw is (ap (λ bs. a ∷ bs) (left_remove n s xs k d b at gone))) empty

-- ---- the numbers and views afterwards

pub keys_set : (xs : List Audience) (i : ℕ) (b d : Audience) → b.number ≡ (get_or xs i d).number
    → b.view ≡ (get_or xs i d).view → keys (slice_set xs i b) ≡ keys xs
keys_set [] i b d number view = refl
keys_set (a ∷ xs) zero b d number view = λ i. (number i, view i) ∷ keys xs
keys_set (a ∷ xs) (suc i) b d number view =
    ap (λ ks. (a.number, a.view) ∷ ks) (keys_set xs i b d number view)

pub keys_remove : (n : ℕ) (xs : List Audience) (i : ℕ) (b : Audience) → At n xs i
    → keys (remove (slice_set xs i b) i) ≡ dropped n (keys xs)
keys_remove n [] i b e = cc
keys_remove n (a ∷ xs) i b e =
    rest_place (λ i. keys (remove (slice_set (a ∷ xs) i b) i) ≡ dropped n (keys (a ∷ xs)))
    n a xs i e (λ is. rw is refl)
    (λ k is at. rw is (ap (λ ks. (a.number, a.view) ∷ ks) (keys_remove n xs k b at)))

pub keys_changed : (n s : ℕ) (xs : List Audience)
    → keys (changed_at n (with_session s) xs) ≡ keys xs
keys_changed n s [] = refl
keys_changed n s (a ∷ xs) = go (a.number == n) (keys_changed n s xs)
  where
    go : (b : Bool) → keys (changed_at n (with_session s) xs) ≡ keys xs
        → keys (cond b (with_session s a ∷ xs) (a ∷ changed_at n (with_session s) xs))
        ≡ keys (a ∷ xs)
    go true rest = refl
    go false rest = ap (λ ks. (a.number, a.view) ∷ ks) rest

pub view_numbered : (n : ℕ) (xs : List Audience)
    → view_in n (keys xs) ≡ option_map (λ (a : Audience). a.view) (numbered n xs)
view_numbered n [] = refl
view_numbered n (a ∷ xs) = go (a.number == n) (view_numbered n xs)
  where
    go : (b : Bool) → view_in n (keys xs) ≡ option_map (λ (a : Audience). a.view) (numbered n xs)
        → cond b (Some a.view) (view_in n (keys xs))
        ≡ option_map (λ (a : Audience). a.view) (cond b (Some a) (numbered n xs))
    go true rest = refl
    go false rest = rest

-- ---- by the view in place of the number

-- the view of the number of a view is that view
pub view_found : (v : View) (n : ℕ) (xs : List Audience) → IsInOrder (keys xs)
    → number_in v (keys xs) ≡ Some n → view_in n (keys xs) ≡ Some v
view_found v n [] order e = cc
view_found v n (a ∷ xs) order e = go (same_view v a.view) refl e (view_found v n xs order.1)
  where
    go : (b : Bool) → same_view v a.view ≡ b
        → cond b (Some a.number) (number_in v (keys xs)) ≡ Some n
        → (number_in v (keys xs) ≡ Some n → view_in n (keys xs) ≡ Some v)
        → cond (a.number == n) (Some a.view) (view_in n (keys xs)) ≡ Some v
    go true is h rest =
        let first : a.number ≡ n = cc in
        let at : (a.number == n) ≡ true = grind (arith, nat_tests, first) in
        rw at (ap Some (sym (view_is v a.view is)))
    go false is h rest =
        let less : a.number < n = found_after a.number v n (keys xs) order.0 h in
        let other : (a.number == n) ≡ false = grind (arith, nat_tests, less) in
        rw other (rest h)

-- an audience with a number has a place
pub place_found : (v : View) (n : ℕ) (xs : List Audience) → number_in v (keys xs) ≡ Some n
    → IsSome (place n xs)
place_found v n [] e = absurd cc
place_found v n (a ∷ xs) e = go (same_view v a.view) (a.number == n) refl e (place_found v n xs)
  where
    later : (o : Option ℕ) → IsSome o → IsSome (option_map suc o)
    later None h = h
    later (Some k) h = h

    go : (b c : Bool) → (a.number == n) ≡ c
        → cond b (Some a.number) (number_in v (keys xs)) ≡ Some n
        → (number_in v (keys xs) ≡ Some n → IsSome (place n xs))
        → IsSome (cond c (Some 0) (option_map suc (place n xs)))
    go b true is h rest = refl
    go true false is h rest =
        let first : a.number ≡ n = cc in absurd (grind (arith, nat_tests, first, is))
    go false false is h rest = later (place n xs) (rest h)

pub joined_there : (m n s : ℕ) (v : View) (xs : List Audience) → IsInOrder (keys xs)
    → number_in v (keys xs) ≡ Some n → changed_at n (with_session s) xs ≡ joined m s v xs
joined_there m n s v [] order e = cc
joined_there m n s v (a ∷ xs) order e =
    go (same_view v a.view) e (joined_there m n s v xs order.1)
  where
    go : (b : Bool) → cond b (Some a.number) (number_in v (keys xs)) ≡ Some n
        → (number_in v (keys xs) ≡ Some n → changed_at n (with_session s) xs ≡ joined m s v xs)
        → changed_at n (with_session s) (a ∷ xs)
        ≡ cond b (with_session s a ∷ xs) (a ∷ joined m s v xs)
    go true h rest =
        let first : a.number ≡ n = cc in
        let at : (a.number == n) ≡ true = grind (arith, nat_tests, first) in
        rw at refl
    go false h rest =
        let less : a.number < n = found_after a.number v n (keys xs) order.0 h in
        let other : (a.number == n) ≡ false = grind (arith, nat_tests, less) in
        rw other (ap (λ bs. a ∷ bs) (rest h))

pub joined_new : (m s : ℕ) (v : View) (xs : List Audience) → number_in v (keys xs) ≡ None
    → xs ++ record { number = m; view = v; sessions = s ∷ [] } ∷ [] ≡ joined m s v xs
joined_new m s v [] e = refl
joined_new m s v (a ∷ xs) e = go (same_view v a.view) e (joined_new m s v xs)
  where
    go : (b : Bool) → cond b (Some a.number) (number_in v (keys xs)) ≡ None
        → (number_in v (keys xs) ≡ None
        → xs ++ record { number = m; view = v; sessions = s ∷ [] } ∷ [] ≡ joined m s v xs)
        → a ∷ (xs ++ record { number = m; view = v; sessions = s ∷ [] } ∷ [])
        ≡ cond b (with_session s a ∷ xs) (a ∷ joined m s v xs)
    go true h rest = cc
    go false h rest = ap (λ bs. a ∷ bs) (rest h)

pub parted_there : (n s : ℕ) (v : View) (xs : List Audience) → IsInOrder (keys xs)
    → number_in v (keys xs) ≡ Some n → left_at n s xs ≡ parted s v xs
parted_there n s v [] order e = cc
parted_there n s v (a ∷ xs) order e =
    go (same_view v a.view) e (parted_there n s v xs order.1)
  where
    go : (b : Bool) → cond b (Some a.number) (number_in v (keys xs)) ≡ Some n
        → (number_in v (keys xs) ≡ Some n → left_at n s xs ≡ parted s v xs)
        → left_at n s (a ∷ xs) ≡ cond b (kept (less_session s a) xs) (a ∷ parted s v xs)
    go true h rest =
        let first : a.number ≡ n = cc in
        let at : (a.number == n) ≡ true = grind (arith, nat_tests, first) in
        rw at refl
    go false h rest =
        let less : a.number < n = found_after a.number v n (keys xs) order.0 h in
        let other : (a.number == n) ≡ false = grind (arith, nat_tests, less) in
        rw other (ap (λ bs. a ∷ bs) (rest h))

pub parted_none : (s : ℕ) (v : View) (xs : List Audience) → number_in v (keys xs) ≡ None
    → xs ≡ parted s v xs
parted_none s v [] e = refl
parted_none s v (a ∷ xs) e = go (same_view v a.view) e (parted_none s v xs)
  where
    go : (b : Bool) → cond b (Some a.number) (number_in v (keys xs)) ≡ None
        → (number_in v (keys xs) ≡ None → xs ≡ parted s v xs)
        → a ∷ xs ≡ cond b (kept (less_session s a) xs) (a ∷ parted s v xs)
    go true h rest = cc
    go false h rest = ap (λ bs. a ∷ bs) (rest h)

-- ---- the next number

pub next_after : (xs : List Audience) → AreBefore (next_number xs) (keys xs)
next_after [] = tt
next_after (a ∷ xs) = (
  omega arith,
  before_more (next_number xs) (next_number (a ∷ xs)) (keys xs) (omega arith) (next_after xs),
)

-- the least number above those of audiences in order is the one after the last
pub next_last : (xs : List Audience) (i : ℕ) (d : Audience) → IsInOrder (keys xs)
    → i + 1 ≡ length xs → next_number xs ≡ (get_or xs i d).number + 1
next_last [] i d order e = absurd (omega (arith, e))
next_last (a ∷ []) zero d order e = omega arith
next_last (a ∷ (b ∷ xs)) zero d order e = absurd (omega (arith, e))
next_last (a ∷ []) (suc i) d order e = absurd (omega (arith, e))
next_last (a ∷ (b ∷ xs)) (suc i) d order e =
    let rest = next_last (b ∷ xs) i d order.1 (omega (arith, e)) in
    let less = after_at a.number (b ∷ xs) i d order.0 (omega (arith, e)) in
    omega (arith, rest, less)

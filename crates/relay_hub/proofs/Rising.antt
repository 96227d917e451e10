-- Sessions whose numbers rise: each number occurs once, they still rise when sessions are changed,
-- added and removed, and a session is found by binary search.
use Rattle.std.proofs.Common.{◌≡◌, ◌≢◌, ℕ, zero, suc, ◌+◌, ◌<◌, ◌≤◌, ◌==◌, Bool, true, false, not}
use Rattle.std.proofs.Common.{List, [], ◌∷◌, ◌++◌, length, get_or, Some, None, refl, sym, ap, subst}
use Rattle.std.proofs.Common.{arith, inl, inr, filter, nat_lt, position, slice_set, if◌then◌else◌}
use Rattle.std.specs.List.{position_or_len, AllPairs}
use Rattle.std.specs.List.Sorted.{IsStrictlyIncreasing, IsPartitionPoint, IsPartitionedBy}
use Rattle.std.proofs.lemmas.Bool.{cases_lt}
use Rattle.std.proofs.lemmas.Bool.Decides.{nat_tests}
use Rattle.std.proofs.lemmas.List.{get_or_append_left, get_or_push, length_push, map-append}
use Rattle.std.proofs.lemmas.List.Kept.{AllPairs-from_increasing, IsStrictlyIncreasing-filter}
use Rattle.relay_hub.specs.Session.{Session}
use Rattle.relay_hub.specs.State.{EachOnce, IsRising, numbers, is_number, session_in}
use Rattle.relay_hub.proofs.Sessions.{none_there}

-- Numbers that rise.

pairs : (xs : List Session) → IsRising xs → AllPairs (λ m n. m < n) (numbers xs)
pairs xs h = AllPairs-from_increasing (numbers xs) h

rest_rises : (x : Session) (xs : List Session) → IsRising (x ∷ xs) → IsRising xs
rest_rises x xs h k within =
    pairs (x ∷ xs) h (suc k) (suc (k + 1)) 0 (omega arith) (omega (arith, within))

first_below : (x : Session) (xs : List Session) → IsRising (x ∷ xs) → (k : ℕ)
    → k < length (numbers xs) → x.number < get_or (numbers xs) k 0
first_below x xs h k within = pairs (x ∷ xs) h 0 (suc k) 0 (omega arith) (omega (arith, within))

-- a number below all is none of them
none_above : (xs : List Session) (n : ℕ)
    → ((k : ℕ) → k < length (numbers xs) → n < get_or (numbers xs) k 0) → session_in xs n ≡ None
none_above [] n h = refl
none_above (x ∷ xs) n h =
    let first : n < x.number = h 0 (omega arith) in
    let other : (x.number == n) ≡ false = grind (arith, nat_tests, first) in
    rw other (none_above xs n (λ k within. h (suc k) (omega (arith, within))))

pub once_rising : (xs : List Session) → IsRising xs → EachOnce xs
once_rising [] h = tt
once_rising (x ∷ xs) h =
    (none_above xs x.number (first_below x xs h), once_rising xs (rest_rises x xs h))

-- A step that leaves the numbers unchanged leaves their order unchanged.

pub same_rises : (xs ys : List Session) → numbers ys ≡ numbers xs → IsRising xs → IsRising ys
same_rises xs ys same h = subst IsStrictlyIncreasing (sym same) h

pub numbers_set : (xs : List Session) (i : ℕ) (y d : Session) → y.number ≡ (get_or xs i d).number
    → numbers (slice_set xs i y) ≡ numbers xs
numbers_set [] i y d e = refl
numbers_set (x ∷ xs) zero y d e = ap (λ n. n ∷ numbers xs) e
numbers_set (x ∷ xs) (suc i) y d e = ap (λ ns. x.number ∷ ns) (numbers_set xs i y d e)

-- A session is removed.

kept_numbers : (b : Bool) (x : Session) (xs : List Session) (ns : List ℕ) → numbers xs ≡ ns
    → numbers (if not b then x ∷ xs else xs) ≡ (if not b then x.number ∷ ns else ns)
kept_numbers true x xs ns e = e
kept_numbers false x xs ns e = ap (λ ms. x.number ∷ ms) e

numbers_left : (xs : List Session) (s : ℕ)
    → numbers (filter (λ x. not (is_number s x)) xs) ≡ filter (λ n. not (n == s)) (numbers xs)
numbers_left [] s = refl
numbers_left (x ∷ xs) s =
    kept_numbers (x.number == s) x (filter (λ y. not (is_number s y)) xs) (filter (λ n.
    not (n == s)) (numbers xs)) (numbers_left xs s)

pub left_rises : (xs : List Session) (s : ℕ) → IsRising xs
    → IsRising (filter (λ x. not (is_number s x)) xs)
left_rises xs s h =
    subst IsStrictlyIncreasing (sym (numbers_left xs s)) (IsStrictlyIncreasing-filter (λ n.
    not (n == s)) (numbers xs) h)

-- A session is added, with a number above all others.

below_new : (xs : List Session) (n : ℕ) → ((t : ℕ) → n ≤ t → session_in xs t ≡ None) → (k : ℕ)
    → k < length (numbers xs) → get_or (numbers xs) k 0 < n
below_new [] n fresh k within = absurd (omega (arith, within))
below_new (x ∷ xs) n fresh zero within =
    elim (cases_lt x.number n) [
      | inl below ↦ below
      | inr late ↦
          let there = none_there x xs x.number (fresh x.number (omega (arith, late))) in
          absurd (grind (arith, nat_tests, there.0))
    ]
below_new (x ∷ xs) n fresh (suc k) within =
    below_new xs n (λ t late. (none_there x xs t (fresh t late)).1) k (omega (arith, within))

rises_on : (ns : List ℕ) (n : ℕ) → IsStrictlyIncreasing ns
    → ((k : ℕ) → k < length ns → get_or ns k 0 < n) → IsStrictlyIncreasing (ns ++ n ∷ [])
rises_on ns n h above k within =
    let long : length (ns ++ n ∷ []) ≡ length ns + 1 = length_push ns n in
    let inside : k < length ns = omega (arith, long, within) in
    let low : get_or (ns ++ n ∷ []) k 0 ≡ get_or ns k 0 =
    get_or_append_left ns (n ∷ []) 0 k inside in
    elim (cases_lt (k + 1) (length ns)) [
      | inl next ↦ rw (low, get_or_append_left ns (n ∷ []) 0 (k + 1) next) (h k next)
      | inr last ↦ rw (
        low,
        get_or_push ns n 0 (k + 1) (omega (arith, inside, last)),
      ) (above k inside)
    ]

pub joined_rises : (xs : List Session) (y : Session)
    → ((t : ℕ) → y.number ≤ t → session_in xs t ≡ None) → IsRising xs → IsRising (xs ++ y ∷ [])
joined_rises xs y fresh h =
    subst IsStrictlyIncreasing (sym (map-append (λ (x : Session). x.number) xs (y ∷ [])))
    (rises_on (numbers xs) y.number h (below_new xs y.number fresh))

pub one_rises : (x : Session) → IsRising (x ∷ [])
one_rises x k within = absurd (omega (arith, within))

-- Binary search.

abbrev pub is_below : ℕ → Session → Bool
is_below n x = nat_lt x.number n

number_of : (xs : List Session) (k : ℕ) (d : Session) → k < length xs
    → (k < length (numbers xs)) × (get_or (numbers xs) k 0 ≡ (get_or xs k d).number)
number_of [] k d within = absurd (omega (arith, within))
number_of (x ∷ xs) zero d within = (omega arith, refl)
number_of (x ∷ xs) (suc k) d within =
    let n = number_of xs k d (omega (arith, within)) in (omega (arith, n.0), n.1)

pair_rises : (xs : List Session) → IsRising xs → (i j : ℕ) (d : Session) → i < j → j < length xs
    → (get_or xs i d).number < (get_or xs j d).number
pair_rises xs h i j d less within =
    let a = number_of xs i d (omega (arith, less, within)) in
    let b = number_of xs j d within in
    let rises : get_or (numbers xs) i 0 < get_or (numbers xs) j 0 = pairs xs h i j 0 less b.0 in
    omega (arith, rises, a.1, b.1)

-- the sessions with lower numbers come first
pub below_parted : (n : ℕ) (xs : List Session) → IsRising xs → IsPartitionedBy (is_below n) xs
below_parted n xs h i j d le within below =
    elim (cases_lt i j) [
      | inl less ↦
          grind (arith, nat_tests, pair_rises xs h i j d less within, below)
      | inr same ↦ let e : j ≡ i = omega (arith, le, same) in
          subst (λ k. is_below n (get_or xs k d) ≡ true) e below
    ]

first_at : (xs : List Session) (n i : ℕ) (d : Session)
    → ((k : ℕ) → k < i → (get_or xs k d).number < n) → i < length xs → (get_or xs i d).number ≡ n
    → position_or_len (is_number n) xs ≡ i
first_at [] n i d below within is = absurd (omega (arith, within))
first_at (x ∷ xs) n zero d below within is =
    let same : (x.number == n) ≡ true = grind (arith, nat_tests, is) in
    rw same refl
first_at (x ∷ xs) n (suc i) d below within is =
    let first : x.number < n = below 0 (omega arith) in
    let other : (x.number == n) ≡ false = grind (arith, nat_tests, first) in
    let rest = first_at xs n i d (λ k less.
    below (suc k) (omega (arith, less))) (omega (arith, within)) is in
    rw other (omega (arith, rest))

nowhere : (xs : List Session) (n : ℕ) (d : Session)
    → ((k : ℕ) → k < length xs → (get_or xs k d).number ≢ n)
    → position_or_len (is_number n) xs ≡ length xs
nowhere [] n d h = refl
nowhere (x ∷ xs) n d h =
    let other : (x.number == n) ≡ false = grind (arith, nat_tests, h 0 (omega arith)) in
    let rest = nowhere xs n d (λ k within. h (suc k) (omega (arith, within))) in
    rw other (omega (arith, rest))

pub below_from : (xs : List Session) (n i : ℕ)
    → IsPartitionPoint (λ x. is_below n x ≡ true) (λ x. is_below n x ≡ false) xs i
    → IsPartitionPoint (λ x. x.number < n) (λ x. n ≤ x.number) xs i
below_from xs n i point = (
  λ k d low high. let below = point.0 k d low high in grind (arith, nat_tests, below),
  λ k d low high. let from = point.1 k d low high in grind (arith, nat_tests, from),
)

module _ (xs : List Session) (n i : ℕ) (d : Session) (point : IsPartitionPoint (λ x.
    x.number < n) (λ x. n ≤ x.number) xs i) where
  before : (k : ℕ) → k < i → (get_or xs k d).number < n
  before k less = point.0 k d (omega arith) less

  -- if the first session with no lower number has the number, it is the index
  pub found_there : i < length xs → (get_or xs i d).number ≡ n → position (is_number n) xs ≡ Some i
  found_there within is =
      let inside : nat_lt i (length xs) ≡ true = grind (arith, nat_tests, within) in
      rw (first_at xs n i d before within is, inside) refl

  not_at : IsRising xs → (i < length xs → (get_or xs i d).number ≢ n) → (k : ℕ) → k < length xs
      → (get_or xs k d).number ≢ n
  not_at h other k within is =
      elim (cases_lt k i) [
        | inl less ↦ let low = before k less in omega (arith, low, is)
        | inr late ↦
            elim (cases_lt i k) [
              | inl less ↦
                  omega (
                    arith,
                    pair_rises xs h i k d less within,
                    point.1 i d (omega arith) (omega (arith, less, within)),
                    is,
                  )
              | inr same ↦
                  let e : k ≡ i = omega (arith, late, same) in
                  absurd (other (omega (arith, within, e)) (subst (λ j.
                  (get_or xs j d).number ≡ n) e is))
            ]
      ]

  -- and if it has another number, or there is none, the number is nowhere
  pub found_nowhere : IsRising xs → (i < length xs → (get_or xs i d).number ≢ n)
      → position (is_number n) xs ≡ None
  found_nowhere h other =
      let outside : nat_lt (length xs) (length xs) ≡ false = grind (arith, nat_tests) in
      rw (nowhere xs n d (not_at h other), outside) refl

pub found_past : (xs : List Session) (n i : ℕ)
    → IsPartitionPoint (λ x. x.number < n) (λ x. n ≤ x.number) xs i → IsRising xs → length xs ≤ i
    → position (is_number n) xs ≡ None
found_past [] n i point h past = refl
found_past (x ∷ xs) n i point h past =
    found_nowhere (x ∷ xs) n i x point h (λ within. absurd (omega (arith, past, within)))

-- Lists in which elements were written, appended or mapped, and the first place that passes a test.
use Rattle.std.proofs.Common.{◌≡◌, ◌≢◌, ℕ, zero, suc, ◌+◌, ◌<◌, ◌==◌, ◌⊎◌, inl, inr, Bool, true}
use Rattle.std.proofs.Common.{false, List, [], ◌∷◌, ◌++◌, length, get_or, not, map, length-append}
use Rattle.std.proofs.Common.{Some, None, refl, sym, ◌∙◌, ap, arith, slice_get, slice_set}
use Rattle.std.proofs.Common.{option_map, position, nat_lt, if◌then◌else◌}
use Rattle.std.specs.List.{position_or_len}
use Rattle.std.proofs.lemmas.Bool.Decides.{nat_tests, eqb_tells, leb_tells}
use Rattle.std.proofs.lemmas.List.{length-set}
use Rattle.std.proofs.lemmas.List.Folds.{position_or_len-set, position_or_len_push}
use Rattle.std.proofs.lemmas.List.Sums.{prefix_len-le-length}
use Rattle.std.proofs.lemmas.Option.{get_or_from_slice_get, slice_get_within, slice_get_past}
use Rattle.std.proofs.lemmas.Option.{slice_get-map}
use Rattle.relay_hub.proofs.Cases.{tested, untested}

-- after a write, what is found is the new element, or another place's
pub slice_set_cases : {X : Type 0} (xs : List X) (i p : ℕ) (v x : X)
    → slice_get (slice_set xs i v) p ≡ Some x
    → ((p ≡ i) × (x ≡ v)) ⊎ ((p ≢ i) × (slice_get xs p ≡ Some x))
slice_set_cases [] i p v x h = absurd cc
slice_set_cases (y ∷ ys) zero zero v x h = inl (refl, cc)
slice_set_cases (y ∷ ys) (suc i) (suc p) v x h =
    elim (slice_set_cases ys i p v x h) [
      | inl k ↦ inl (omega (arith, k.0), k.1)
      | inr k ↦ inr (λ e. k.0 (omega (arith, e)), k.1)
    ]
slice_set_cases (y ∷ ys) _ _ v x h = inr (λ e. omega (arith, e), h)

-- after an append, what is found is the new element or an earlier one
pub append_cases : {X : Type 0} (xs : List X) (p : ℕ) (v x : X)
    → slice_get (xs ++ v ∷ []) p ≡ Some x
    → ((p ≡ length xs) × (x ≡ v)) ⊎ ((p < length xs) × (slice_get xs p ≡ Some x))
append_cases [] zero v x h = inl (refl, cc)
append_cases [] (suc p) v x h = absurd cc
append_cases (y ∷ ys) zero v x h = inr (omega arith, h)
append_cases (y ∷ ys) (suc p) v x h =
    elim (append_cases ys p v x h) [
      | inl k ↦ inl (omega (arith, k.0), k.1)
      | inr k ↦ inr (omega (arith, k.0), k.1)
    ]

pub slice_get-set : {X : Type 0} (xs : List X) (i : ℕ) (u v : X) → slice_get xs i ≡ Some u
    → slice_get (slice_set xs i v) i ≡ Some v
slice_get-set [] i u v h = absurd cc
slice_get-set (y ∷ ys) zero u v h = refl
slice_get-set (y ∷ ys) (suc i) u v h = slice_get-set ys i u v h

pub slice_get-set_other : {X : Type 0} (xs : List X) (i p : ℕ) (v : X) → p ≢ i
    → slice_get (slice_set xs i v) p ≡ slice_get xs p
slice_get-set_other (y ∷ ys) zero zero v h = absurd (h refl)
slice_get-set_other (y ∷ ys) (suc i) (suc p) v h =
    slice_get-set_other ys i p v (λ e. h (omega (arith, e)))
slice_get-set_other _ _ _ v h = refl

pub slice_set_same : {X : Type 0} (xs : List X) (i : ℕ) (v : X) → slice_get xs i ≡ Some v
    → slice_set xs i v ≡ xs
slice_set_same [] i v h = refl
slice_set_same (y ∷ ys) zero v h = cc
slice_set_same (y ∷ ys) (suc i) v h = ap (λ zs. y ∷ zs) (slice_set_same ys i v h)

pub slice_get-earlier : {X : Type 0} (xs : List X) (d x : X) (i : ℕ) → slice_get xs i ≡ Some x
    → slice_get (xs ++ d ∷ []) i ≡ Some x
slice_get-earlier [] d x i h = absurd cc
slice_get-earlier (y ∷ ys) d x zero h = h
slice_get-earlier (y ∷ ys) d x (suc i) h = slice_get-earlier ys d x i h

pub slice_get-last : {X : Type 0} (xs : List X) (d : X)
    → slice_get (xs ++ d ∷ []) (length xs) ≡ Some d
slice_get-last [] d = refl
slice_get-last (y ∷ ys) d = slice_get-last ys d

-- The first place that passes a test.

pub position_within : {X : Type 0} (test : X → Bool) (xs : List X) (i : ℕ)
    → position test xs ≡ Some i → i < length xs
position_within test xs i h =
    let n = position_or_len test xs in
    let t : (nat_lt n (length xs) ≡ true) × (i ≡ n) = tested (nat_lt n (length xs)) n i h in
    grind (arith, nat_tests, t.0, t.1)

pub position_set : {X : Type 0} (test : X → Bool) (xs : List X) (i : ℕ) (u v : X)
    → slice_get xs i ≡ Some u → test v ≡ test u
    → position test (slice_set xs i v) ≡ position test xs
position_set test xs i u v at same =
    let is : get_or xs i u ≡ u = get_or_from_slice_get xs i u u at in
    rw (position_or_len-set test xs i v u (same ∙ ap test (sym is)), length-set xs i v) refl

pub position_earlier : {X : Type 0} (test : X → Bool) (xs : List X) (v : X) (i : ℕ)
    → position test xs ≡ Some i → position test (xs ++ v ∷ []) ≡ Some i
position_earlier test xs v i h =
    let n = position_or_len test xs in
    let t : (nat_lt n (length xs) ≡ true) × (i ≡ n) = tested (nat_lt n (length xs)) n i h in
    let other : (n == length xs) ≡ false = grind (arith, nat_tests, t.0) in
    let inside : nat_lt n (length (xs ++ v ∷ [])) ≡ true =
    grind (arith, nat_tests, t.0, length-append xs (v ∷ [])) in
    rw (position_or_len_push test xs v, other, inside) (ap Some (sym t.1))

pub position_apart : {X : Type 0} (test : X → Bool) (xs : List X) (v : X) → position test xs ≡ None
    → test v ≡ false → position test (xs ++ v ∷ []) ≡ None
position_apart test xs v h fails =
    let n = position_or_len test xs in
    let t : nat_lt n (length xs) ≡ false = untested (nat_lt n (length xs)) n h in
    let here : (n == length xs) ≡ true =
    grind (arith, nat_tests, t, prefix_len-le-length (λ x. not (test x)) xs) in
    let past : nat_lt (length xs + 1) (length (xs ++ v ∷ [])) ≡ false =
    grind (arith, nat_tests, length-append xs (v ∷ [])) in
    rw (position_or_len_push test xs v, here, fails, past) refl

pub position_last : {X : Type 0} (test : X → Bool) (xs : List X) (v : X) → position test xs ≡ None
    → test v ≡ true → position test (xs ++ v ∷ []) ≡ Some (length xs)
position_last test xs v h passes =
    let n = position_or_len test xs in
    let t : nat_lt n (length xs) ≡ false = untested (nat_lt n (length xs)) n h in
    let here : (n == length xs) ≡ true =
    grind (arith, nat_tests, t, prefix_len-le-length (λ x. not (test x)) xs) in
    let last : length xs + 0 ≡ length xs = omega arith in
    let inside : nat_lt (length xs) (length (xs ++ v ∷ [])) ≡ true =
    grind (arith, nat_tests, length-append xs (v ∷ [])) in
    rw (position_or_len_push test xs v, here, passes, last, inside) refl

written_step : (b : Bool) (n m l i : ℕ) → (if not b then 1 + n else 0) ≡ suc l → (n ≡ l → m ≡ i)
    → (if not b then 1 + m else 0) ≡ suc i
written_step true n m l i h rest = absurd (omega (arith, h))
written_step false n m l i h rest = let r = rest (omega (arith, h)) in omega (arith, r)

written_at : {X : Type 0} (test : X → Bool) (xs : List X) (i : ℕ) (v : X)
    → position_or_len test xs ≡ length xs → test v ≡ true → i < length xs
    → position_or_len test (slice_set xs i v) ≡ i
written_at test [] i v all passes within = absurd (omega (arith, within))
written_at test (x ∷ xs) zero v all passes within = rw passes refl
written_at test (x ∷ xs) (suc i) v all passes within =
    written_step (test x) (position_or_len test xs) (position_or_len test (slice_set xs i v))
    (length xs) i all
    (λ rest. written_at test xs i v rest passes (omega (arith, within)))

-- where none passed, and one that passes was written
pub position_written : {X : Type 0} (test : X → Bool) (xs : List X) (i : ℕ) (v : X)
    → position test xs ≡ None → test v ≡ true → i < length xs
    → position test (slice_set xs i v) ≡ Some i
position_written test xs i v none passes within =
    let n = position_or_len test xs in
    let t : nat_lt n (length xs) ≡ false = untested (nat_lt n (length xs)) n none in
    let all : n ≡ length xs =
    grind (arith, nat_tests, t, prefix_len-le-length (λ x. not (test x)) xs) in
    let here = written_at test xs i v all passes within in
    let inside : nat_lt i (length xs) ≡ true = grind (arith, nat_tests, within) in
    rw (here, length-set xs i v, inside) refl

-- the first that passes, and none that does
pub position_first : {X : Type 0} (test : X → Bool) (xs : List X) (i : ℕ) (x : X)
    → ((p : ℕ) (y : X) → p < i → slice_get xs p ≡ Some y → test y ≡ false)
    → slice_get xs i ≡ Some x → test x ≡ true → position test xs ≡ Some i
position_first {X = X} test xs i x before at passes =
    let inside : nat_lt i (length xs) ≡ true =
    grind (arith, nat_tests, slice_get_within xs i x at) in
    rw (go xs i before at, inside) refl
  where
    go : (xs : List X) (i : ℕ)
        → ((p : ℕ) (y : X) → p < i → slice_get xs p ≡ Some y → test y ≡ false)
        → slice_get xs i ≡ Some x → position_or_len test xs ≡ i
    go [] i before at = absurd (cc at)
    go (y ∷ ys) zero before at = let same : y ≡ x = cc in rw (same, passes) refl
    go (y ∷ ys) (suc i) before at =
        let fails : test y ≡ false = before 0 y (omega arith) refl in
        let rest = go ys i (λ p z less is. before (suc p) z (omega (arith, less)) is) at in
        rw fails (omega (arith, rest))

pub position_none : {X : Type 0} (test : X → Bool) (xs : List X)
    → ((p : ℕ) (y : X) → slice_get xs p ≡ Some y → test y ≡ false) → position test xs ≡ None
position_none {X = X} test xs fails =
    let past : nat_lt (length xs) (length xs) ≡ false = grind (arith, nat_tests) in
    rw (go xs fails, past) refl
  where
    go : (xs : List X) → ((p : ℕ) (y : X) → slice_get xs p ≡ Some y → test y ≡ false)
        → position_or_len test xs ≡ length xs
    go [] fails = refl
    go (y ∷ ys) fails =
        let no : test y ≡ false = fails 0 y refl in
        let rest = go ys (λ p z is. fails (suc p) z is) in
        rw no (omega (arith, rest))

same_slots : {X : Type 0} (xs ys : List X) → ((p : ℕ) → slice_get xs p ≡ slice_get ys p) → xs ≡ ys
same_slots [] [] h = refl
same_slots [] (y ∷ ys) h = absurd (cc (h 0))
same_slots (x ∷ xs) [] h = absurd (cc (h 0))
same_slots (x ∷ xs) (y ∷ ys) h =
    let e = h 0 in let first : x ≡ y = cc in (λ i. first i ∷ same_slots xs ys (λ p. h (suc p)) i)

-- Mapped one by one.

-- the first i of a list are mapped, and the others are not yet
abbrev pub MappedTo : {X : Type 0} (f : X → X) (i : ℕ) (old new : List X) → Type 0
MappedTo f i old new =
    (p : ℕ) → slice_get new p
    ≡ (if nat_lt p i then option_map f (slice_get old p) else slice_get old p)

pub none_mapped : {X : Type 0} (f : X → X) (xs : List X) → MappedTo f 0 xs xs
none_mapped f xs p = let none : nat_lt p 0 ≡ false = grind (arith, nat_tests) in rw none refl

-- one more
pub one_mapped : {X : Type 0} (f : X → X) (i : ℕ) (old mid : List X) (x : X) → MappedTo f i old mid
    → slice_get mid i ≡ Some x → MappedTo f (i + 1) old (slice_set mid i (f x))
one_mapped f i old mid x h at p =
    elim (eqb_tells p i) [
      | inl same ↦
          let less : nat_lt p (i + 1) ≡ true = grind (arith, nat_tests, same.1) in
          let not_yet : nat_lt i i ≡ false = grind (arith, nat_tests) in
          let was : slice_get old i ≡ Some x = (rw not_yet at (sym (h i))) ∙ at in
          rw (less, same.1, slice_get-set mid i x (f x) at, was) refl
      | inr other ↦
          let same : nat_lt p (i + 1) ≡ nat_lt p i = grind (arith, nat_tests, other.1) in
          rw (slice_get-set_other mid i p (f x) other.1, same) (h p)
    ]

-- all of them
pub all_mapped : {X : Type 0} (f : X → X) (i : ℕ) (old new : List X) → i ≡ length old
    → MappedTo f i old new → new ≡ map f old
all_mapped f i old new all h =
    same_slots new (map f old) (λ p. h p ∙ step p ∙ sym (slice_get-map f old p))
  where
    step : (p : ℕ) → (if nat_lt p i then option_map f (slice_get old p) else slice_get old p)
        ≡ option_map f (slice_get old p)
    step p = elim (leb_tells i p) [
      | inl late ↦
          let no : nat_lt p i ≡ false = grind (arith, nat_tests, late.1) in
          let none : slice_get old p ≡ None = slice_get_past old p (omega (arith, late.1, all)) in
          rw (no, none) refl
      | inr soon ↦ let yes : nat_lt p i ≡ true = grind (arith, nat_tests, soon.1) in rw yes refl
    ]

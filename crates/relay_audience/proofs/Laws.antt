-- Laws of audiences for their callers: a call changes the view of one session, each session that
-- watches is in exactly the audience of its view, and an edit touches these audiences, in order.
use Rattle.std.proofs.Common.{◌≡◌, ◌∙◌, ℕ, suc, ◌+◌, ◌<◌, ◌==◌, Bool, true, false, cond}
use Rattle.std.proofs.Common.{List, [], ◌∷◌, ◌||◌, Option, Some, None, refl, sym, ap, subst, arith}
use Rattle.std.proofs.Common.{nat_eq, length, get_or, is_some, option_map}
use Rattle.std.specs.List.{AllByRecursion, list_any}
use Rattle.std.specs.List.Sorted.{IsStrictlyIncreasing}
use Rattle.std.proofs.Common.{inl, inr}
use Rattle.std.proofs.lemmas.Bool.{cases_lt}
use Rattle.std.proofs.lemmas.Bool.Decides.{nat_tests}
use Rattle.std.proofs.lemmas.List.Elements.{All-from_recursion}
use Rattle.std.proofs.lemmas.List.Kept.{AllPairs-from_increasing}
use Rattle.relay_patch.specs.declared.change.Change.{Change}
use Rattle.relay_tree.specs.Document.{Document}
use Rattle.relay_view.specs.View.{View}
use Rattle.relay_translate.specs.Translate.{local}
use Rattle.relay_translate.specs.Watches.{is_touched, slots_of}
use Rattle.relay_audience.specs.Sessions.{AreAbove, IsRising}
use Rattle.relay_audience.specs.ViewOrder.{same_view}
use Rattle.relay_audience.specs.declared.audience.Audience.{Audience}
use Rattle.relay_audience.specs.Audiences.{attends, is_view, is_watched, joined, next_number}
use Rattle.relay_audience.specs.Audiences.{numbered, numbers, numbers_touched, sees, slots_at}
use Rattle.relay_audience.specs.Audiences.{view_of, watched, without, AreComplete, AreExact}
use Rattle.relay_audience.specs.Audiences.{ChangesViewOf, EachSessionOnce, EachViewOnce}
use Rattle.relay_audience.specs.Audiences.{IsAudiences, OthersStay}
use Rattle.relay_audience.proofs.Partings.{other_joined, other_without, own_joined, own_without}
use Rattle.relay_audience.proofs.SessionLists.{above_more}
use Rattle.relay_audience.proofs.Views.{view_is, view_itself, view_back}

-- ---- whose view changes

either_number : (s t : ℕ) (P : Bool → Type 0) → (s ≡ t → P true) → ((t == s) ≡ false → P false)
    → P (s == t)
either_number s t P own other = go (s == t) refl
  where
    go : (b : Bool) → (s == t) ≡ b → P b
    go true is = own (grind (arith, nat_tests))
    go false is = other (grind (arith, nat_tests))

-- a session that leaves watches nothing, and every other session what it watched
pub without_only : (s : ℕ) (xs : List Audience) → ChangesViewOf s None xs (without s xs)
without_only s xs t =
    either_number s t (λ b. view_of t (without s xs) ≡ cond b None (view_of t xs))
    (λ same. subst (λ x. view_of x (without s xs) ≡ None) same (own_without s xs))
    (λ other. other_without s t other xs)

-- a session that watches a view watches it, and every other session what it watched
pub watched_only : (s : ℕ) (v : View) (xs : List Audience)
    → ChangesViewOf s (Some v) xs (watched s v xs)
watched_only s v xs t = go (is_view v (view_of s xs)) refl
  where
    stays : (o : Option View) → view_of s xs ≡ o → is_view v o ≡ true → view_of s xs ≡ Some v
    stays None is h = cc
    stays (Some u) is h = is ∙ ap Some (sym (view_is v u h))

    go : (b : Bool) → is_view v (view_of s xs) ≡ b
        → view_of t (cond b xs (joined (next_number xs) s v (without s xs)))
        ≡ cond (s == t) (Some v) (view_of t xs)
    go true is =
        either_number s t (λ b. view_of t xs ≡ cond b (Some v) (view_of t xs))
        (λ same. subst (λ x. view_of x xs ≡ Some v) same (stays (view_of s xs) refl is))
        (λ other. refl)
    go false is =
        let new = joined (next_number xs) s v (without s xs) in
        either_number s t (λ b. view_of t new ≡ cond b (Some v) (view_of t xs))
        (λ same. subst (λ x. view_of x new ≡ Some v) same
        (own_joined (next_number xs) s v (without s xs) (own_without s xs)))
        (λ other. other_joined s t other (next_number xs) v (without s xs)
        ∙ other_without s t other xs)

-- ---- who is where

-- the sessions of all audiences together are those that watch
pub complete : (xs : List Audience) → AreComplete xs
complete [] s = refl
complete (a ∷ xs) s = go (attends s a) (complete xs s)
  where
    go : (b : Bool) → list_any (attends s) xs ≡ is_some (view_of s xs)
        → (b || list_any (attends s) xs) ≡ is_some (cond b (Some a.view) (view_of s xs))
    go true rest = refl
    go false rest = rest

-- a view that no audience has is nobody's
not_watched : (s : ℕ) (v : View) (xs : List Audience) → is_watched v xs ≡ false
    → is_view v (view_of s xs) ≡ false
not_watched s v [] h = refl
not_watched s v (a ∷ xs) h = go (attends s a) (same_view v a.view) refl h (not_watched s v xs)
  where
    go : (b c : Bool) → same_view v a.view ≡ c → (c || is_watched v xs) ≡ false
        → (is_watched v xs ≡ false → is_view v (view_of s xs) ≡ false)
        → is_view v (cond b (Some a.view) (view_of s xs)) ≡ false
    go b true is k rest = cc
    go true false is k rest = is
    go false false is k rest = rest k

-- what holds of the audiences behind one
module _ (s : ℕ) (a : Audience) (there : Bool) where
  rest_exact : (xs ys : List Audience) → (there ≡ true → view_of s xs ≡ None)
      → is_watched a.view ys ≡ false
      → AllByRecursion (λ b. attends s b ≡ is_view b.view (view_of s xs)) ys
      → AllByRecursion (λ b. attends s b ≡ is_view b.view (cond there (Some a.view) (view_of s xs)))
      ys
  rest_exact xs [] once apart h = tt
  rest_exact xs (b ∷ ys) once apart h =
      go there refl (same_view a.view b.view) refl apart (rest_exact xs ys once)
    where
      go : (c : Bool) → there ≡ c → (e : Bool) → same_view a.view b.view ≡ e
          → (e || is_watched a.view ys) ≡ false
          → (is_watched a.view ys ≡ false
          → AllByRecursion (λ b. attends s b ≡ is_view b.view (view_of s xs)) ys
          → AllByRecursion
          (λ b. attends s b ≡ is_view b.view (cond there (Some a.view) (view_of s xs))) ys)
          → AllByRecursion
          (λ b. attends s b ≡ is_view b.view (cond there (Some a.view) (view_of s xs))) (b ∷ ys)
      go c is true at k rest = cc
      go true is false at k rest = (
        h.0 ∙ ap (is_view b.view) (once is)
            ∙ sym (rw is (view_back b.view a.view ∙ at)),
        rest k h.1,
      )
      go false is false at k rest = (
        h.0 ∙ sym (rw is refl),
        rest k h.1,
      )

by_recursion : (s : ℕ) (xs : List Audience) → EachViewOnce xs → EachSessionOnce xs
    → AllByRecursion (λ a. attends s a ≡ is_view a.view (view_of s xs)) xs
by_recursion s [] views sessions = tt
by_recursion s (a ∷ xs) views sessions = (
  first (attends s a) refl,
  rest_exact s a (attends s a) xs xs (sessions.0 s) views.0
      (by_recursion s xs views.1 sessions.1),
)
  where
    first : (b : Bool) → attends s a ≡ b
        → b ≡ is_view a.view (cond b (Some a.view) (view_of s xs))
    first true is = sym (view_itself a.view)
    first false is = sym (not_watched s a.view xs views.0)

-- each session that watches is in exactly the audience of its view
pub exact : (xs : List Audience) → IsAudiences xs → AreExact xs
exact xs h s =
    All-from_recursion (λ a. attends s a ≡ is_view a.view (view_of s xs)) xs
    (by_recursion s xs h.views h.sessions)

-- the audience of a session that watches, which is found by its number
pub audience_of : (s : ℕ) (v : View) (xs : List Audience) → IsRising (numbers xs)
    → view_of s xs ≡ Some v
    → (a : Audience) × (numbered a.number xs ≡ Some a) × (attends s a ≡ true) × (a.view ≡ v)
audience_of s v [] rising h = cc
audience_of s v (a ∷ xs) rising h = go (attends s a) refl h (audience_of s v xs rising.1)
  where
    above : (n : ℕ) (b : Audience) (ys : List Audience) → AreAbove n (numbers ys)
        → numbered b.number ys ≡ Some b → n < b.number
    above n b [] low at = cc
    above n b (y ∷ ys) low at = first (y.number == b.number) refl at (above n b ys low.1)
      where
        first : (c : Bool) → (y.number == b.number) ≡ c
            → cond c (Some y) (numbered b.number ys) ≡ Some b
            → (numbered b.number ys ≡ Some b → n < b.number) → n < b.number
        first true is k rest =
            let same : y.number ≡ b.number = grind (arith, nat_tests) in
            let less : n < y.number = low.0 in omega (arith, less, same)
        first false is k rest = rest k

    go : (b : Bool) → attends s a ≡ b → cond b (Some a.view) (view_of s xs) ≡ Some v
        → (view_of s xs ≡ Some v
        → (b : Audience) × (numbered b.number xs ≡ Some b) × (attends s b ≡ true) × (b.view ≡ v))
        → (b : Audience) × (numbered b.number (a ∷ xs) ≡ Some b) × (attends s b ≡ true)
        × (b.view ≡ v)
    go true is k rest =
        let same : a.view ≡ v = cc in
        let at : (a.number == a.number) ≡ true = grind (arith, nat_tests) in
        (a, rw at refl, is, same)
    go false is k rest =
        let some = rest k in
        let low : a.number < some.0.number = above a.number some.0 xs rising.0 some.1 in
        let other : (a.number == some.0.number) ≡ false = grind (arith, nat_tests, low) in
        (some.0, rw other some.1, some.2, some.3)

-- a session whose audience is not named among those that changes touch is told nothing by them
pub stays : (changes : List Change) (xs : List Audience) (named : List ℕ)
    → IsRising (numbers xs) → OthersStay changes xs named → (s : ℕ) (v : View)
    → view_of s xs ≡ Some v
    → ((a : Audience) → numbered a.number xs ≡ Some a → attends s a ≡ true
    → list_any (nat_eq a.number) named ≡ false)
    → (now : Document) → local changes now v ≡ []
stays changes xs named rising others s v h apart now =
    let some = audience_of s v xs rising h in
    let slots : slots_at xs some.0.number ≡ v =
    ap (λ o. slots_of (option_map (λ (a : Audience). a.view) o)) some.1 ∙ some.3 in
    subst (λ u. local changes now u ≡ []) slots
    (others some.0.number now (apart some.0 some.1 some.2))

-- ---- which audiences an edit touches

absent_above : (n : ℕ) (xs : List ℕ) → AreAbove n xs → list_any (nat_eq n) xs ≡ false
absent_above n [] h = refl
absent_above n (x ∷ xs) h =
    let other : (n == x) ≡ false = grind (arith, nat_tests, h.0) in
    rw other (absent_above n xs h.1)

-- two lists of numbers that rise and have the same numbers are the same
pub same_rising : (xs ys : List ℕ) → IsRising xs → IsRising ys
    → ((n : ℕ) → list_any (nat_eq n) xs ≡ list_any (nat_eq n) ys) → xs ≡ ys
same_rising [] [] h k same = refl
same_rising [] (y ∷ ys) h k same =
    let here : (y == y) ≡ true = grind (arith, nat_tests) in
    let at = same y in cc
same_rising (x ∷ xs) [] h k same =
    let here : (x == x) ≡ true = grind (arith, nat_tests) in
    let at = same x in cc
same_rising (x ∷ xs) (y ∷ ys) h k same =
    elim (cases_lt x y) [
      | inl less ↦ absurd (first_less x y xs ys k less (same x))
      | inr late ↦
          elim (cases_lt y x) [
            | inl less ↦ absurd (first_less y x ys xs h less (sym (same y)))
            | inr early ↦ let e : x ≡ y = omega (arith, late, early) in
                let rest : xs ≡ ys =
                same_rising xs ys h.1 k.1
                (λ n. others x xs ys h.0 (subst (λ z. AreAbove z ys) (sym e) k.0) n
                (subst (λ z. list_any (nat_eq n) (x ∷ xs) ≡ list_any (nat_eq n) (z ∷ ys)) (sym e)
                (same n))) in
                λ i. e i ∷ rest i
          ]
    ]
  where
    first_less : (x y : ℕ) (xs ys : List ℕ) → IsRising (y ∷ ys) → x < y
        → list_any (nat_eq x) (x ∷ xs) ≡ list_any (nat_eq x) (y ∷ ys) → ⊥
    first_less x y xs ys k less at =
        let here : (x == x) ≡ true = grind (arith, nat_tests) in
        let other : (x == y) ≡ false = grind (arith, nat_tests, less) in
        let absent : list_any (nat_eq x) ys ≡ false =
        absent_above x ys (above_more x y ys less k.0) in cc

    others : (x : ℕ) (xs ys : List ℕ) → AreAbove x xs → AreAbove x ys → (n : ℕ)
        → list_any (nat_eq n) (x ∷ xs) ≡ list_any (nat_eq n) (x ∷ ys)
        → list_any (nat_eq n) xs ≡ list_any (nat_eq n) ys
    others x xs ys low below n at = go (n == x) refl at
      where
        go : (b : Bool) → (n == x) ≡ b
            → (b || list_any (nat_eq n) xs) ≡ (b || list_any (nat_eq n) ys)
            → list_any (nat_eq n) xs ≡ list_any (nat_eq n) ys
        go true is e =
            let here : x ≡ n = grind (arith, nat_tests) in
            subst (λ z. list_any (nat_eq z) xs ≡ list_any (nat_eq z) ys) here
            (absent_above x xs low ∙ sym (absent_above x ys below))
        go false is e = e

above_from : (n : ℕ) (ns : List ℕ) → ((k : ℕ) → k < length ns → n < get_or ns k 0)
    → AreAbove n ns
above_from n [] h = tt
above_from n (m ∷ ns) h =
    (h 0 (omega arith), above_from n ns (λ k within. h (suc k) (omega (arith, within))))

pub rising_from : (ns : List ℕ) → IsStrictlyIncreasing ns → IsRising ns
rising_from [] h = tt
rising_from (n ∷ ns) h = (
  above_from n ns (λ k within.
      AllPairs-from_increasing (n ∷ ns) h 0 (suc k) 0 (omega arith) (omega (arith, within))),
  rising_from ns (λ k within.
      AllPairs-from_increasing (n ∷ ns) h (suc k) (suc (k + 1)) 0 (omega arith)
      (omega (arith, within))),
)

module _ (changes : List Change) where
  above_touched : (n : ℕ) (xs : List Audience) → AreAbove n (numbers xs)
      → AreAbove n (numbers_touched changes xs)
  above_touched n [] h = tt
  above_touched n (a ∷ xs) h =
      go (list_any (is_touched changes) a.view) (above_touched n xs h.1)
    where
      go : (b : Bool) → AreAbove n (numbers_touched changes xs)
          → AreAbove n
          (cond b (a.number ∷ numbers_touched changes xs) (numbers_touched changes xs))
      go true rest = (h.0, rest)
      go false rest = rest

  pub rising_touched : (xs : List Audience) → IsRising (numbers xs)
      → IsRising (numbers_touched changes xs)
  rising_touched [] h = tt
  rising_touched (a ∷ xs) h =
      go (list_any (is_touched changes) a.view) (rising_touched xs h.1)
    where
      go : (b : Bool) → IsRising (numbers_touched changes xs)
          → IsRising (cond b (a.number ∷ numbers_touched changes xs) (numbers_touched changes xs))
      go true rest = (above_touched a.number xs h.0, rest)
      go false rest = rest

  pub touched_any : (xs : List Audience) (n : ℕ) → IsRising (numbers xs)
      → list_any (nat_eq n) (numbers_touched changes xs) ≡ sees changes xs n
  touched_any [] n h = refl
  touched_any (a ∷ xs) n h =
      go (list_any (is_touched changes) a.view) refl (a.number == n) refl (touched_any xs n h.1)
    where
      go : (b : Bool) → list_any (is_touched changes) a.view ≡ b
          → (c : Bool) → (a.number == n) ≡ c
          → list_any (nat_eq n) (numbers_touched changes xs) ≡ sees changes xs n
          → list_any (nat_eq n)
          (cond b (a.number ∷ numbers_touched changes xs) (numbers_touched changes xs))
          ≡ list_any (is_touched changes)
          (slots_of (option_map (λ (x : Audience). x.view) (cond c (Some a) (numbered n xs))))
      go true is true at rest =
          let here : (n == a.number) ≡ true = grind (arith, nat_tests) in
          rw (here, is) refl
      go true is false at rest =
          let other : (n == a.number) ≡ false = grind (arith, nat_tests) in
          rw other rest
      go false is true at rest =
          let here : a.number ≡ n = grind (arith, nat_tests) in
          subst (λ m. list_any (nat_eq m) (numbers_touched changes xs) ≡ false) here
          (absent_above a.number (numbers_touched changes xs) (above_touched a.number xs h.0))
          ∙ sym is
      go false is false at rest = rest

  -- numbers that rise and are those of the audiences with a slot that some change touches
  pub touched_are : (xs : List Audience) (ns : List ℕ) → IsRising (numbers xs)
      → IsStrictlyIncreasing ns → ((n : ℕ) → list_any (nat_eq n) ns ≡ sees changes xs n)
      → ns ≡ numbers_touched changes xs
  touched_are xs ns h rising are =
      same_rising ns (numbers_touched changes xs) (rising_from ns rising) (rising_touched xs h)
      (λ n. are n ∙ sym (touched_any xs n h))

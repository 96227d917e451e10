-- The sessions that a list of numbers names, as each of them is given an update.
use Rattle.std.proofs.Common.{◌≡◌, ◌∙◌, ℕ, zero, suc, ◌+◌, ◌<◌, ◌≤◌, ◌==◌, Bool, true, false, cond}
use Rattle.std.proofs.Common.{List, [], ◌∷◌, ◌++◌, ◌||◌, Option, Some, None, refl, sym, ap, subst}
use Rattle.std.proofs.Common.{arith, inl, inr, nat_eq, length, get_or, take, position, slice_set}
use Rattle.std.specs.List.{list_any}
use Rattle.std.specs.Prelude.{IsSome}
use Rattle.std.proofs.Math.Bool.{or-false, or-true}
use Rattle.std.proofs.lemmas.Bool.Decides.{eqb_tells, nat_tests}
use Rattle.std.proofs.lemmas.List.Folds.{list_any_more, list_any-append}
use Rattle.relay_audience.specs.Sessions.{AreAbove, IsRising as AreRising}
use Rattle.relay_hub.specs.Session.{Session}
use Rattle.relay_hub.specs.State.{EachOnce, is_number, numbers, session_in}
use Rattle.relay_hub.specs.Step.{among}
use Rattle.relay_hub.specs.Telling.{AreDue, AreWatching, Given, GivenIf, GivenTo}
use Rattle.relay_hub.specs.declared.update.Update.{Update}
use Rattle.relay_hub.proofs.Rising.{numbers_set}
use Rattle.relay_hub.proofs.Sessions.{none_there, same_session, set_only}

-- ---- numbers among others

pub among_within : (others ns : List ℕ) → among others ns ≤ length ns
among_within others [] = omega arith
among_within others (n ∷ ns) = go (list_any (nat_eq n) others) (among_within others ns)
  where
    go : (b : Bool) → among others ns ≤ length ns
        → among others ns + cond b 1 0 ≤ suc (length ns)
    go true rest = omega (arith, rest)
    go false rest = omega (arith, rest)

-- a number that is nowhere counts for nothing
among_absent : (s : ℕ) (others : List ℕ) (xs : List Session) → session_in xs s ≡ None
    → among (s ∷ others) (numbers xs) ≡ among others (numbers xs)
among_absent s others [] none = refl
among_absent s others (x ∷ xs) none =
    let n = none_there x xs s none in
    let other : nat_eq x.number s ≡ false = grind (arith, nat_tests, n.0) in
    rw (other, among_absent s others xs n.1) refl

-- a number that is there once counts for one more
pub among_more : (s : ℕ) (others : List ℕ) (xs : List Session) (x : Session) → EachOnce xs
    → session_in xs s ≡ Some x → list_any (nat_eq s) others ≡ false
    → among (s ∷ others) (numbers xs) ≡ among others (numbers xs) + 1
among_more s others [] x once there fresh = cc
among_more s others (y ∷ ys) x once there fresh =
    elim (eqb_tells y.number s) [
      | inl same ↦
          let is : nat_eq y.number s ≡ true = grind (arith, nat_tests, same.1) in
          let absent = subst (λ n. session_in ys n ≡ None) same.1 once.0 in
          let not_yet : list_any (nat_eq y.number) others ≡ false = rw same.1 fresh in
          let rest = among_absent s others ys absent in
          rw (is, not_yet) (omega (arith, rest))
      | inr other ↦
          let not_it : nat_eq y.number s ≡ false = grind (arith, nat_tests, other.0) in
          let later : session_in ys s ≡ Some x = rw other.0 at there in
          let rest = among_more s others ys x once.1 later fresh in
          rw not_it (omega (arith, rest))
    ]

-- two lists that share no number
pub among_both : (before more ns : List ℕ)
    → ((t : ℕ) → list_any (nat_eq t) before ≡ true → list_any (nat_eq t) more ≡ false)
    → among (before ++ more) ns ≡ among before ns + among more ns
among_both before more [] apart = refl
among_both before more (n ∷ ns) apart =
    rw (list_any-append (nat_eq n) before more)
    (go (list_any (nat_eq n) before) (list_any (nat_eq n) more) (apart n)
    (among_both before more ns apart))
  where
    go : (a b : Bool) → (a ≡ true → b ≡ false)
        → among (before ++ more) ns ≡ among before ns + among more ns
        → among (before ++ more) ns + cond (a || b) 1 0
        ≡ among before ns + cond a 1 0 + (among more ns + cond b 1 0)
    go true true k rest = absurd (cc (k refl))
    go true false k rest = omega (arith, rest)
    go false true k rest = omega (arith, rest)
    go false false k rest = omega (arith, rest)

-- ---- numbers that rise

not_above : (n : ℕ) (ns : List ℕ) (k d : ℕ) → AreAbove n ns → k < length ns
    → n < get_or ns k d
not_above n [] k d above within = absurd (omega (arith, within))
not_above n (m ∷ ns) zero d above within = above.0
not_above n (m ∷ ns) (suc k) d above within =
    not_above n ns k d above.1 (omega (arith, within))

-- of rising numbers none is among those before it
pub not_before : (ns : List ℕ) (k d : ℕ) → AreRising ns → k < length ns
    → list_any (nat_eq (get_or ns k d)) (take k ns) ≡ false
not_before [] k d rises within = absurd (omega (arith, within))
not_before (n ∷ ns) zero d rises within = refl
not_before (n ∷ ns) (suc k) d rises within =
    let inside : k < length ns = omega (arith, within) in
    let above = not_above n ns k d rises.0 inside in
    let other : nat_eq (get_or ns k d) n ≡ false = grind (arith, nat_tests, above) in
    rw other (not_before ns k d rises.1 inside)

-- and each of them is in the list
pub there_at : (ns : List ℕ) (k d : ℕ) → k < length ns → list_any (nat_eq (get_or ns k d)) ns ≡ true
there_at [] k d within = absurd (omega (arith, within))
there_at (n ∷ ns) zero d within =
    let itself : nat_eq n n ≡ true = grind (arith, nat_tests) in rw itself refl
there_at (n ∷ ns) (suc k) d within =
    rw (there_at ns k d (omega (arith, within))) (or-true (nat_eq (get_or ns k d) n))

-- a snapshot is due for one more
pub due_more : (ns : List ℕ) (k d : ℕ) → k < length ns → (xs : List Session)
    → AreDue (take k ns) xs
    → ((x : Session) → session_in xs (get_or ns k d) ≡ Some x → x.outbox.due ≡ true)
    → AreDue (take (k + 1) ns) xs
due_more ns k d within xs before next t x among there =
    elim (eqb_tells (get_or ns k d) t) [
      | inl same ↦ next x (subst (λ u. session_in xs u ≡ Some x) (sym same.1) there)
      | inr other ↦
          let not_it : nat_eq t (get_or ns k d) ≡ false = grind (arith, nat_tests, other.0) in
          before t x (rw (
            list_any_more (nat_eq t) ns k d within,
            not_it,
            or-false (list_any (nat_eq t) (take k ns)),
          ) at among) there
    ]

-- ---- a session that is given an update

-- keeps its number
pub given_number : (update : Option Update) (short : Bool) (x y : Session) → Given update short x y
    → y.number ≡ x.number
given_number update true x y h = ap (λ (z : Session). z.number) h.1
given_number (Some u) false x y h = ap (λ (z : Session). z.number) h
given_number None false x y h = ap (λ (z : Session). z.number) h.1

-- ---- one after the other

module _ (update : Option Update) (named : List ℕ) (xs : List Session) where
  -- before the first
  pub given_none : GivenTo update [] xs xs 0
  given_none = record {
    short = [];
    count = nobody (numbers xs);
    same = refl;
    each = λ t. (refl, refl);
  }
    where
      nobody : (ns : List ℕ) → 0 ≡ among [] ns
      nobody [] = refl
      nobody (n ∷ ns) = omega (arith, nobody ns)

  module _ (k d : ℕ) (within : k < length named) (rises : AreRising named)
      (ys : List Session) (n : ℕ) (before : GivenTo update (take k named) xs ys n) where
    abbrev s : ℕ
    s = get_or named k d

    fresh : list_any (nat_eq s) (take k named) ≡ false
    fresh = not_before named k d rises within

    untouched : GivenIf false update (list_any (nat_eq s) before.short) (session_in xs s)
        (session_in ys s)
    untouched = rw fresh at (before.each s)

    -- the next one watches, if those that are named do
    pub next_watches : AreWatching named xs → (y : Session) → session_in ys s ≡ Some y
        → IsSome y.view
    next_watches watching y there =
        watching s y (there_at named k d within) (sym untouched.0 ∙ there)

    -- the next one is not there
    pub given_absent : session_in ys s ≡ None → GivenTo update (take (k + 1) named) xs ys n
    given_absent none = record {
      short = before.short;
      count = before.count;
      same = before.same;
      each = λ t. rw (list_any_more (nat_eq t) named k d within) (at t);
    }
      where
        at : (t : ℕ) → GivenIf (list_any (nat_eq t) (take k named) || nat_eq t s) update
            (list_any (nat_eq t) before.short) (session_in xs t) (session_in ys t)
        at t =
            elim (eqb_tells s t) [
              | inl same ↦
                  let is : nat_eq t s ≡ true = grind (arith, nat_tests, same.1) in
                  let gone : session_in xs s ≡ None = sym untouched.0 ∙ none in
                  subst (λ u. GivenIf (list_any (nat_eq u) (take k named) || nat_eq u s) update
                  (list_any (nat_eq u) before.short) (session_in xs u) (session_in ys u)) same.1
                  (rw (fresh, subst (λ u. nat_eq u s ≡ true) (sym same.1) is, gone, none)
                  untouched.1)
              | inr other ↦
                  let not_it : nat_eq t s ≡ false = grind (arith, nat_tests, other.0) in
                  rw (not_it, or-false (list_any (nat_eq t) (take k named))) (before.each t)
            ]

    -- the next one is given the update
    module _ (i : ℕ) (y z : Session) (short : Bool) (once : EachOnce xs)
        (at : position (is_number s) ys ≡ Some i) (there : session_in ys s ≡ Some y)
        (given : Given update short y z) where
      keeps : z.number ≡ y.number
      keeps = given_number update short y z given

      abbrev shorts : List ℕ
      shorts = cond short (s ∷ before.short) before.short

      was : session_in xs s ≡ Some y
      was = sym untouched.0 ∙ there

      now : (t : ℕ) → session_in (slice_set ys i z) t ≡ cond (s == t) (Some z) (session_in ys t)
      now = (set_only ys s i y z at there keeps).found

      counted : n + cond short 1 0 ≡ among shorts (numbers xs)
      counted = go short
        where
          go : (b : Bool) → n + cond b 1 0
              ≡ among (cond b (s ∷ before.short) before.short) (numbers xs)
          go true =
              let more = among_more s before.short xs y once was untouched.1 in
              omega (arith, more, before.count)
          go false = omega (arith, before.count)

      is_short : list_any (nat_eq s) shorts ≡ short
      is_short = go short
        where
          go : (b : Bool) → list_any (nat_eq s) (cond b (s ∷ before.short) before.short) ≡ b
          go true = let itself : nat_eq s s ≡ true = grind (arith, nat_tests) in rw itself refl
          go false = untouched.1

      others_short : (t : ℕ) → nat_eq t s ≡ false
          → list_any (nat_eq t) shorts ≡ list_any (nat_eq t) before.short
      others_short t other = go short
        where
          go : (b : Bool) → list_any (nat_eq t) (cond b (s ∷ before.short) before.short)
              ≡ list_any (nat_eq t) before.short
          go true = rw other refl
          go false = refl

      each_given : (t : ℕ) → GivenIf (list_any (nat_eq t) (take k named) || nat_eq t s) update
          (list_any (nat_eq t) shorts) (session_in xs t) (session_in (slice_set ys i z) t)
      each_given t =
          elim (eqb_tells s t) [
            | inl same ↦
                let itself : nat_eq s s ≡ true = grind (arith, nat_tests) in
                let here : (s == s) ≡ true = grind (arith, nat_tests) in
                subst (λ u. GivenIf (list_any (nat_eq u) (take k named) || nat_eq u s) update
                (list_any (nat_eq u) shorts) (session_in xs u) (session_in (slice_set ys i z) u))
                same.1 (rw (fresh, itself, is_short, was, now s, here) given)
            | inr other ↦
                let not_it : nat_eq t s ≡ false = grind (arith, nat_tests, other.0) in
                rw (
                  not_it,
                  or-false (list_any (nat_eq t) (take k named)),
                  others_short t not_it,
                  now t,
                  other.0,
                ) (before.each t)
          ]

      pub given_more : (m : ℕ) → m ≡ n + cond short 1 0
          → GivenTo update (take (k + 1) named) xs (slice_set ys i z) m
      given_more m sum = record {
        short = shorts;
        count = sum ∙ counted;
        same = numbers_set ys i z y (keeps ∙ sym number_is) ∙ before.same;
        each = λ t. rw (list_any_more (nat_eq t) named k d within) (each_given t);
      }
        where
          number_is : (get_or ys i y).number ≡ y.number
          number_is = ap (λ (x : Session). x.number) (same_session ys s i at y y there)

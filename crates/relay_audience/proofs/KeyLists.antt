-- The numbers and views of audiences, as a key is added behind the others or one is dropped.
use Rattle.std.proofs.Common.{◌≡◌, ◌∙◌, ℕ, ◌<◌, ◌≤◌, ◌==◌, Bool, true, false, cond}
use Rattle.std.proofs.Common.{[], ◌∷◌, ◌++◌, Option, Some, None, refl, sym, ap, subst, arith}
use Rattle.std.proofs.lemmas.Bool.Decides.{nat_tests}
use Rattle.relay_view.specs.View.{View}
use Rattle.relay_audience.specs.ViewOrder.{same_view}
use Rattle.relay_audience.specs.Table.{Keys, number_in, view_in, dropped, AreAfter, IsInOrder}
use Rattle.relay_audience.specs.Table.{EachOnce}
use Rattle.relay_audience.proofs.Views.{view_is, view_back}

-- ---- what is after a number, and before one

pub found_after : (x : ℕ) (v : View) (n : ℕ) (ks : Keys) → AreAfter x ks → number_in v ks ≡ Some n
    → x < n
found_after x v n [] h e = cc
found_after x v n (k ∷ ks) h e = go (same_view v k.1) e (found_after x v n ks h.1)
  where
    go : (b : Bool) → cond b (Some k.0) (number_in v ks) ≡ Some n
        → (number_in v ks ≡ Some n → x < n) → x < n
    go true is rest = let first : k.0 ≡ n = cc in omega (arith, h.0, first)
    go false is rest = rest is

pub none_after : (x : ℕ) (ks : Keys) → AreAfter x ks → view_in x ks ≡ None
none_after x [] h = refl
none_after x (k ∷ ks) h =
    let other : (k.0 == x) ≡ false = grind (arith, nat_tests, h.0) in
    rw other (none_after x ks h.1)

-- each number is below n
abbrev pub AreBefore : ℕ → Keys → Type 0
AreBefore n [] = Unit {0}
AreBefore n (k ∷ ks) = (k.0 < n) × AreBefore n ks

pub before_more : (n m : ℕ) (ks : Keys) → n ≤ m → AreBefore n ks → AreBefore m ks
before_more n m [] le h = tt
before_more n m (k ∷ ks) le h = (omega (arith, le, h.0), before_more n m ks le h.1)

pub none_before : (n : ℕ) (ks : Keys) → AreBefore n ks → view_in n ks ≡ None
none_before n [] h = refl
none_before n (k ∷ ks) h =
    let other : (k.0 == n) ≡ false = grind (arith, nat_tests, h.0) in
    rw other (none_before n ks h.1)

-- ---- a key is added

module _ (n : ℕ) (v : View) where
  pub number_push : (ks : Keys) (q : View) → number_in v ks ≡ None
      → number_in q (ks ++ (n, v) ∷ []) ≡ cond (same_view v q) (Some n) (number_in q ks)
  number_push [] q none = ap (λ b. cond b (Some n) None) (view_back q v)
  number_push (k ∷ ks) q none =
      go (same_view v k.1) (same_view q k.1) (same_view v q) refl refl refl none
      (number_push ks q)
    where
      go : (a b c : Bool) → same_view v k.1 ≡ a → same_view q k.1 ≡ b → same_view v q ≡ c
          → cond a (Some k.0) (number_in v ks) ≡ None
          → (number_in v ks ≡ None
          → number_in q (ks ++ (n, v) ∷ []) ≡ cond (same_view v q) (Some n) (number_in q ks))
          → cond b (Some k.0) (number_in q (ks ++ (n, v) ∷ []))
          ≡ cond c (Some n) (cond b (Some k.0) (number_in q ks))
      go true b c ea eb ec h rest = cc
      go false true true ea eb ec h rest =
          let same : v ≡ q = view_is v q ec in
          let there : same_view v k.1 ≡ true = rw same eb in cc
      go false true false ea eb ec h rest = refl
      go false false c ea eb ec h rest = rest h ∙ ap (λ x. cond x (Some n) (number_in q ks)) ec

  pub view_push : (ks : Keys) (m : ℕ) → AreBefore n ks
      → view_in m (ks ++ (n, v) ∷ []) ≡ cond (n == m) (Some v) (view_in m ks)
  view_push [] m h = refl
  view_push (k ∷ ks) m h = go (k.0 == m) refl (view_push ks m h.1)
    where
      go : (b : Bool) → (k.0 == m) ≡ b
          → view_in m (ks ++ (n, v) ∷ []) ≡ cond (n == m) (Some v) (view_in m ks)
          → cond b (Some k.1) (view_in m (ks ++ (n, v) ∷ []))
          ≡ cond (n == m) (Some v) (cond b (Some k.1) (view_in m ks))
      go true is rest =
          let other : (n == m) ≡ false = grind (arith, nat_tests, h.0) in
          rw other refl
      go false is rest = rest

  after_push : (x : ℕ) (ks : Keys) → x < n → AreAfter x ks → AreAfter x (ks ++ (n, v) ∷ [])
  after_push x [] less h = (less, tt)
  after_push x (k ∷ ks) less h = (h.0, after_push x ks less h.1)

  pub order_push : (ks : Keys) → AreBefore n ks → IsInOrder ks → IsInOrder (ks ++ (n, v) ∷ [])
  order_push [] before h = (tt, tt)
  order_push (k ∷ ks) before h =
      (after_push k.0 ks before.0 h.0, order_push ks before.1 h.1)

  pub once_push : (ks : Keys) → number_in v ks ≡ None → EachOnce ks → EachOnce (ks ++ (n, v) ∷ [])
  once_push [] none h = (refl, tt)
  once_push (k ∷ ks) none h = go (same_view v k.1) refl none (once_push ks)
    where
      go : (b : Bool) → same_view v k.1 ≡ b → cond b (Some k.0) (number_in v ks) ≡ None
          → (number_in v ks ≡ None → EachOnce ks → EachOnce (ks ++ (n, v) ∷ []))
          → EachOnce (k ∷ (ks ++ (n, v) ∷ []))
      go true is e rest = cc
      go false is e rest = (
        number_push ks k.1 e ∙ rw is h.0,
        rest e h.1,
      )

-- ---- a key is dropped

module _ (n : ℕ) where
  pub number_drop : (v : View) (ks : Keys) (q : View) → IsInOrder ks → EachOnce ks
      → number_in v ks ≡ Some n
      → number_in q (dropped n ks) ≡ cond (same_view v q) None (number_in q ks)
  number_drop v [] q order once e = cc
  number_drop v (k ∷ ks) q order once e =
      go (same_view v k.1) refl e (number_drop v ks q order.1 once.1)
    where
      last : (c : Bool) → same_view v q ≡ c → v ≡ k.1
          → number_in q ks ≡ cond c None (cond (same_view q k.1) (Some k.0) (number_in q ks))
      last true is same =
          let there : k.1 ≡ q = sym same ∙ view_is v q is in
          subst (λ u. number_in u ks ≡ None) there once.0
      last false is same =
          let other : same_view q k.1 ≡ false = rw (← same) (view_back q v ∙ is) in
          rw other refl

      others : (b : Bool) → same_view q k.1 ≡ b → same_view v k.1 ≡ false
          → number_in q (dropped n ks) ≡ cond (same_view v q) None (number_in q ks)
          → cond b (Some k.0) (number_in q (dropped n ks))
          ≡ cond (same_view v q) None (cond b (Some k.0) (number_in q ks))
      others true is apart rest =
          let there : q ≡ k.1 = view_is q k.1 is in
          let other : same_view v q ≡ false = rw there apart in
          rw other refl
      others false is apart rest = rest

      go : (a : Bool) → same_view v k.1 ≡ a → cond a (Some k.0) (number_in v ks) ≡ Some n
          → (number_in v ks ≡ Some n
          → number_in q (dropped n ks) ≡ cond (same_view v q) None (number_in q ks))
          → number_in q (cond (k.0 == n) ks (k ∷ dropped n ks))
          ≡ cond (same_view v q) None (cond (same_view q k.1) (Some k.0) (number_in q ks))
      go true is h rest =
          let first : k.0 ≡ n = cc in
          let at : (k.0 == n) ≡ true = grind (arith, nat_tests, first) in
          rw at (last (same_view v q) refl (view_is v k.1 is))
      go false is h rest =
          let less : k.0 < n = found_after k.0 v n ks order.0 h in
          let other : (k.0 == n) ≡ false = grind (arith, nat_tests, less) in
          rw other (others (same_view q k.1) refl is (rest h))

  pub view_drop : (ks : Keys) (m : ℕ) → IsInOrder ks
      → view_in m (dropped n ks) ≡ cond (n == m) None (view_in m ks)
  view_drop [] m order = none (n == m)
    where
      none : (b : Bool) → ◌≡◌ {A = Option View} None (cond b None None)
      none true = refl
      none false = refl
  view_drop (k ∷ ks) m order = go (k.0 == n) refl (view_drop ks m order.1)
    where
      first : (b : Bool) → (n == m) ≡ b → k.0 ≡ n
          → view_in m ks ≡ cond b None (cond (k.0 == m) (Some k.1) (view_in m ks))
      first true is same =
          let there : k.0 ≡ m = grind (arith, nat_tests) in
          subst (λ x. view_in x ks ≡ None) there (none_after k.0 ks order.0)
      first false is same =
          let other : (k.0 == m) ≡ false = rw same is in
          rw other refl

      others : (b : Bool) → (k.0 == m) ≡ b → (k.0 == n) ≡ false
          → view_in m (dropped n ks) ≡ cond (n == m) None (view_in m ks)
          → cond b (Some k.1) (view_in m (dropped n ks))
          ≡ cond (n == m) None (cond b (Some k.1) (view_in m ks))
      others true is apart rest =
          let other : (n == m) ≡ false = grind (arith, nat_tests) in
          rw other refl
      others false is apart rest = rest

      go : (a : Bool) → (k.0 == n) ≡ a
          → view_in m (dropped n ks) ≡ cond (n == m) None (view_in m ks)
          → view_in m (cond a ks (k ∷ dropped n ks))
          ≡ cond (n == m) None (cond (k.0 == m) (Some k.1) (view_in m ks))
      go true is rest = first (n == m) refl (grind (arith, nat_tests))
      go false is rest = others (k.0 == m) refl is rest

  after_drop : (x : ℕ) (ks : Keys) → AreAfter x ks → AreAfter x (dropped n ks)
  after_drop x [] h = tt
  after_drop x (k ∷ ks) h = go (k.0 == n) (after_drop x ks h.1)
    where
      go : (b : Bool) → AreAfter x (dropped n ks) → AreAfter x (cond b ks (k ∷ dropped n ks))
      go true rest = h.1
      go false rest = (h.0, rest)

  pub order_drop : (ks : Keys) → IsInOrder ks → IsInOrder (dropped n ks)
  order_drop [] h = tt
  order_drop (k ∷ ks) h = go (k.0 == n) (order_drop ks h.1)
    where
      go : (b : Bool) → IsInOrder (dropped n ks) → IsInOrder (cond b ks (k ∷ dropped n ks))
      go true rest = h.1
      go false rest = (after_drop k.0 ks h.0, rest)

  none_drop : (v : View) (ks : Keys) → number_in v ks ≡ None → number_in v (dropped n ks) ≡ None
  none_drop v [] e = refl
  none_drop v (k ∷ ks) e = go (same_view v k.1) (k.0 == n) refl e (none_drop v ks)
    where
      go : (a b : Bool) → same_view v k.1 ≡ a → cond a (Some k.0) (number_in v ks) ≡ None
          → (number_in v ks ≡ None → number_in v (dropped n ks) ≡ None)
          → number_in v (cond b ks (k ∷ dropped n ks)) ≡ None
      go true b is h rest = cc
      go false true is h rest = h
      go false false is h rest = rw is (rest h)

  pub once_drop : (ks : Keys) → EachOnce ks → EachOnce (dropped n ks)
  once_drop [] h = tt
  once_drop (k ∷ ks) h = go (k.0 == n) (once_drop ks h.1)
    where
      go : (b : Bool) → EachOnce (dropped n ks) → EachOnce (cond b ks (k ∷ dropped n ks))
      go true rest = h.1
      go false rest = (none_drop k.1 ks h.0, rest)

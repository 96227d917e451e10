-- The audiences of a room as a session joins one and leaves one: what stays true of them, and that
-- a session which leaves the audience of its view is without a view.
use Rattle.std.proofs.Common.{◌≡◌, ◌∙◌, ℕ, ◌==◌, Bool, true, false, cond, ◌&&◌, ◌||◌, not}
use Rattle.std.proofs.Common.{List, [], ◌∷◌, Some, None, refl, sym, ap, subst, arith}
use Rattle.std.proofs.Common.{nat_eq}
use Rattle.std.specs.List.{list_any}
use Rattle.std.proofs.lemmas.Bool.Decides.{nat_tests}
use Rattle.relay_view.specs.View.{View}
use Rattle.relay_audience.specs.Sessions.{is_empty, removed, AreAbove, IsRising}
use Rattle.relay_audience.specs.ViewOrder.{same_view}
use Rattle.relay_audience.specs.declared.audience.Audience.{Audience}
use Rattle.relay_audience.specs.Audiences.{attends, joined, kept, less_session, numbers, view_of}
use Rattle.relay_audience.specs.Audiences.{is_watched, with_session, without, AreFilled}
use Rattle.relay_audience.specs.Audiences.{next_number, watched, EachSessionOnce}
use Rattle.relay_audience.specs.Audiences.{EachViewOnce, IsAudiences}
use Rattle.relay_audience.specs.Table.{keys, number_in, parted, AreAfter, IsInOrder, EachOnce}
use Rattle.relay_audience.proofs.SessionLists.{inserted_any, inserted_filled, removed_absent}
use Rattle.relay_audience.proofs.SessionLists.{removed_any}
use Rattle.relay_audience.proofs.Views.{view_is, view_itself, view_back}

-- ---- one audience

less_absent : (s : ℕ) (a : Audience) → attends s a ≡ false → less_session s a ≡ a
less_absent s a h = ap (λ ys. record a { sessions = ys }) (removed_absent s a.sessions h)

kept_filled : (a : Audience) (xs : List Audience) → is_empty a.sessions ≡ false
    → kept a xs ≡ a ∷ xs
kept_filled a xs h = rw h refl

none_attends : (t : ℕ) (ys : List ℕ) → is_empty ys ≡ true → list_any (nat_eq t) ys ≡ false
none_attends t [] h = refl
none_attends t (y ∷ ys) h = cc

attends_less : (s t : ℕ) (a : Audience) → (t == s) ≡ false
    → attends t (less_session s a) ≡ attends t a
attends_less s t a other = removed_any s t a.sessions ∙ rw other refl

less_attends : (s t : ℕ) (a : Audience) → attends t (less_session s a) ≡ true
    → attends t a ≡ true
less_attends s t a h = go (t == s) (attends t a) (sym (removed_any s t a.sessions) ∙ h)
  where
    go : (b c : Bool) → (not b && c) ≡ true → c ≡ true
    go true c k = cc
    go false c k = k

attends_with : (s t : ℕ) (a : Audience) → (t == s) ≡ false
    → attends t (with_session s a) ≡ attends t a
attends_with s t a other = inserted_any s t a.sessions ∙ rw other refl

-- ---- the view of a session

module _ (s t : ℕ) (other : (t == s) ≡ false) where
  pub other_joined : (n : ℕ) (v : View) (xs : List Audience)
      → view_of t (joined n s v xs) ≡ view_of t xs
  other_joined n v [] = rw other refl
  other_joined n v (a ∷ xs) = go (same_view v a.view) (other_joined n v xs)
    where
      go : (b : Bool) → view_of t (joined n s v xs) ≡ view_of t xs
          → view_of t (cond b (with_session s a ∷ xs) (a ∷ joined n s v xs)) ≡ view_of t (a ∷ xs)
      go true rest =
          ap (λ x. cond x (Some a.view) (view_of t xs)) (attends_with s t a other)
      go false rest = ap (λ o. cond (attends t a) (Some a.view) o) rest

  pub other_without : (xs : List Audience) → view_of t (without s xs) ≡ view_of t xs
  other_without [] = refl
  other_without (a ∷ xs) =
      go (is_empty (removed s a.sessions)) refl (other_without xs)
    where
      go : (b : Bool) → is_empty (removed s a.sessions) ≡ b
          → view_of t (without s xs) ≡ view_of t xs
          → view_of t (cond b (without s xs) (less_session s a ∷ without s xs))
          ≡ view_of t (a ∷ xs)
      go true is rest =
          let absent : attends t a ≡ false =
          sym (attends_less s t a other) ∙ none_attends t (removed s a.sessions) is in
          rw absent rest
      go false is rest =
          ap (λ x. cond x (Some a.view) (view_of t (without s xs))) (attends_less s t a other)
          ∙ ap (λ o. cond (attends t a) (Some a.view) o) rest

itself : (s : ℕ) → (s == s) ≡ true
itself s = grind (arith, nat_tests)

pub own_without : (s : ℕ) (xs : List Audience) → view_of s (without s xs) ≡ None
own_without s [] = refl
own_without s (a ∷ xs) = go (is_empty (removed s a.sessions)) (own_without s xs)
  where
    absent : attends s (less_session s a) ≡ false
    absent = removed_any s s a.sessions ∙ rw (itself s) refl

    go : (b : Bool) → view_of s (without s xs) ≡ None
        → view_of s (cond b (without s xs) (less_session s a ∷ without s xs)) ≡ None
    go true rest = rest
    go false rest = rw absent rest

pub own_joined : (n s : ℕ) (v : View) (xs : List Audience) → view_of s xs ≡ None
    → view_of s (joined n s v xs) ≡ Some v
own_joined n s v [] h = rw (itself s) refl
own_joined n s v (a ∷ xs) h =
    go (same_view v a.view) refl (attends s a) refl h (own_joined n s v xs)
  where
    there : attends s (with_session s a) ≡ true
    there = inserted_any s s a.sessions ∙ rw (itself s) refl

    go : (b : Bool) → same_view v a.view ≡ b → (c : Bool) → attends s a ≡ c
        → cond c (Some a.view) (view_of s xs) ≡ None
        → (view_of s xs ≡ None → view_of s (joined n s v xs) ≡ Some v)
        → view_of s (cond b (with_session s a ∷ xs) (a ∷ joined n s v xs)) ≡ Some v
    go b is true at k rest = cc
    go true is false at k rest = rw there (ap Some (sym (view_is v a.view is)))
    go false is false at k rest = rw at (rest k)

-- ---- a session without a view, and one with a view

pub without_none : (s : ℕ) (xs : List Audience) → AreFilled xs → view_of s xs ≡ None
    → without s xs ≡ xs
without_none s [] filled h = refl
without_none s (a ∷ xs) filled h = go (attends s a) refl h (without_none s xs filled.1)
  where
    go : (b : Bool) → attends s a ≡ b → cond b (Some a.view) (view_of s xs) ≡ None
        → (view_of s xs ≡ None → without s xs ≡ xs)
        → kept (less_session s a) (without s xs) ≡ a ∷ xs
    go true is k rest = cc
    go false is k rest =
        ap (λ b. kept b (without s xs)) (less_absent s a is)
        ∙ kept_filled a (without s xs) filled.0 ∙ ap (λ ys. a ∷ ys) (rest k)

-- the view of a session is that of an audience
viewed : (s : ℕ) (v : View) (xs : List Audience) → view_of s xs ≡ Some v
    → number_in v (keys xs) ≡ None → ⊥
viewed s v [] h none = cc
viewed s v (a ∷ xs) h none =
    go (attends s a) (same_view v a.view) refl h none (viewed s v xs)
  where
    go : (b c : Bool) → same_view v a.view ≡ c → cond b (Some a.view) (view_of s xs) ≡ Some v
        → cond c (Some a.number) (number_in v (keys xs)) ≡ None
        → (view_of s xs ≡ Some v → number_in v (keys xs) ≡ None → ⊥) → ⊥
    go b true is k e rest = cc
    go true false is k e rest =
        let same : a.view ≡ v = cc in
        let there : same_view v a.view ≡ true = rw same (view_itself v) in cc
    go false false is k e rest = rest k e

pub without_parted : (s : ℕ) (v : View) (xs : List Audience) → AreFilled xs → EachSessionOnce xs
    → EachOnce (keys xs) → view_of s xs ≡ Some v → without s xs ≡ parted s v xs
without_parted s v [] filled sessions views h = refl
without_parted s v (a ∷ xs) filled sessions views h =
    go (attends s a) refl h (without_parted s v xs filled.1 sessions.1 views.1)
  where
    apart : (c : Bool) → same_view v a.view ≡ c → view_of s xs ≡ Some v
        → a ∷ parted s v xs ≡ cond c (kept (less_session s a) xs) (a ∷ parted s v xs)
    apart true is k =
        let same : v ≡ a.view = view_is v a.view is in
        absurd (viewed s v xs k (rw same views.0))
    apart false is k = refl

    go : (b : Bool) → attends s a ≡ b → cond b (Some a.view) (view_of s xs) ≡ Some v
        → (view_of s xs ≡ Some v → without s xs ≡ parted s v xs)
        → kept (less_session s a) (without s xs)
        ≡ cond (same_view v a.view) (kept (less_session s a) xs) (a ∷ parted s v xs)
    go true is k rest =
        let same : a.view ≡ v = cc in
        let there : same_view v a.view ≡ true = rw same (view_itself v) in
        rw there
        (ap (kept (less_session s a)) (without_none s xs filled.1 (sessions.0 s is)))
    go false is k rest =
        ap (λ b. kept b (without s xs)) (less_absent s a is)
        ∙ kept_filled a (without s xs) filled.0 ∙ ap (λ ys. a ∷ ys) (rest k)
        ∙ apart (same_view v a.view) refl k

-- ---- a session that joins one audience and leaves another

pub parted_joined : (n s : ℕ) (u v : View) (xs : List Audience) → same_view u v ≡ false
    → parted s u (joined n s v xs) ≡ joined n s v (parted s u xs)
parted_joined n s u v [] apart = rw apart refl
parted_joined n s u v (a ∷ xs) apart =
    go (same_view v a.view) (same_view u a.view) refl refl (parted_joined n s u v xs apart)
  where
    past : (e : Bool) → same_view v a.view ≡ false
        → cond e (joined n s v xs) (less_session s a ∷ joined n s v xs)
        ≡ joined n s v (cond e xs (less_session s a ∷ xs))
    past true is = refl
    past false is = rw is refl

    go : (b c : Bool) → same_view v a.view ≡ b → same_view u a.view ≡ c
        → parted s u (joined n s v xs) ≡ joined n s v (parted s u xs)
        → parted s u (cond b (with_session s a ∷ xs) (a ∷ joined n s v xs))
        ≡ joined n s v (cond c (kept (less_session s a) xs) (a ∷ parted s u xs))
    go true true is at rest =
        let first : v ≡ a.view = view_is v a.view is in
        let there : same_view u v ≡ true = rw first at in cc
    go true false is at rest = rw (at, is) refl
    go false true is at rest = rw at (past (is_empty (removed s a.sessions)) is)
    go false false is at rest = rw (at, is) (ap (λ ys. a ∷ ys) rest)

-- ---- what stays true

pub filled_joined : (n s : ℕ) (v : View) (xs : List Audience) → AreFilled xs
    → AreFilled (joined n s v xs)
filled_joined n s v [] h = (refl, tt)
filled_joined n s v (a ∷ xs) h = go (same_view v a.view) (filled_joined n s v xs h.1)
  where
    go : (b : Bool) → AreFilled (joined n s v xs)
        → AreFilled (cond b (with_session s a ∷ xs) (a ∷ joined n s v xs))
    go true rest = (inserted_filled s a.sessions, h.1)
    go false rest = (h.0, rest)

pub filled_parted : (s : ℕ) (v : View) (xs : List Audience) → AreFilled xs
    → AreFilled (parted s v xs)
filled_parted s v [] h = tt
filled_parted s v (a ∷ xs) h = go (same_view v a.view) (filled_parted s v xs h.1)
  where
    left : (e : Bool) → is_empty (removed s a.sessions) ≡ e
        → AreFilled (cond e xs (less_session s a ∷ xs))
    left true is = h.1
    left false is = (is, h.1)

    go : (b : Bool) → AreFilled (parted s v xs)
        → AreFilled (cond b (kept (less_session s a) xs) (a ∷ parted s v xs))
    go true rest = left (is_empty (removed s a.sessions)) refl
    go false rest = (h.0, rest)

not_both : (s t : ℕ) (a : Audience) → attends s a ≡ false → attends t a ≡ true
    → (t == s) ≡ false
not_both s t a none some = go (t == s) refl
  where
    go : (b : Bool) → (t == s) ≡ b → b ≡ false
    go true is =
        let same : t ≡ s = grind (arith, nat_tests) in
        let there : attends s a ≡ true = subst (λ x. attends x a ≡ true) same some in cc
    go false is = refl

pub once_joined : (n s : ℕ) (v : View) (xs : List Audience) → view_of s xs ≡ None
    → EachSessionOnce xs → EachSessionOnce (joined n s v xs)
once_joined n s v [] none h = (λ t there. refl, tt)
once_joined n s v (a ∷ xs) none h =
    go (attends s a) refl none (same_view v a.view) (once_joined n s v xs)
  where
    either : (b : Bool) (t : ℕ) → (t == s) ≡ b → view_of s xs ≡ None → (b || attends t a) ≡ true
        → view_of t xs ≡ None
    either true t is k there =
        let same : s ≡ t = grind (arith, nat_tests) in
        subst (λ x. view_of x xs ≡ None) same k
    either false t is k there = h.0 t there

    go : (c : Bool) → attends s a ≡ c → cond c (Some a.view) (view_of s xs) ≡ None → (b : Bool)
        → (view_of s xs ≡ None → EachSessionOnce xs → EachSessionOnce (joined n s v xs))
        → EachSessionOnce (cond b (with_session s a ∷ xs) (a ∷ joined n s v xs))
    go true is k b rest = cc
    go false is k true rest = (
      λ t there. either (t == s) t refl k (sym (inserted_any s t a.sessions) ∙ there),
      h.1,
    )
    go false is k false rest = (
      λ t there. other_joined s t (not_both s t a is there) n v xs ∙ h.0 t there,
      rest k h.1,
    )

none_parted : (s t : ℕ) (v : View) (xs : List Audience) → view_of t xs ≡ None
    → view_of t (parted s v xs) ≡ None
none_parted s t v [] h = refl
none_parted s t v (a ∷ xs) h =
    go (attends t a) refl h (same_view v a.view) (none_parted s t v xs)
  where
    absent : attends t a ≡ false → attends t (less_session s a) ≡ false
    absent is = removed_any s t a.sessions ∙ rw is (none (not (t == s)))
      where
        none : (b : Bool) → (b && false) ≡ false
        none true = refl
        none false = refl

    left : (e : Bool) → attends t a ≡ false → view_of t xs ≡ None
        → view_of t (cond e xs (less_session s a ∷ xs)) ≡ None
    left true is k = k
    left false is k = rw (absent is) k

    go : (c : Bool) → attends t a ≡ c → cond c (Some a.view) (view_of t xs) ≡ None → (b : Bool)
        → (view_of t xs ≡ None → view_of t (parted s v xs) ≡ None)
        → view_of t (cond b (kept (less_session s a) xs) (a ∷ parted s v xs)) ≡ None
    go true is k b rest = cc
    go false is k true rest = left (is_empty (removed s a.sessions)) is k
    go false is k false rest = rw is (rest k)

pub once_parted : (s : ℕ) (v : View) (xs : List Audience) → EachSessionOnce xs
    → EachSessionOnce (parted s v xs)
once_parted s v [] h = tt
once_parted s v (a ∷ xs) h = go (same_view v a.view) (once_parted s v xs h.1)
  where
    left : (e : Bool) → EachSessionOnce (cond e xs (less_session s a ∷ xs))
    left true = h.1
    left false = (λ t there. h.0 t (less_attends s t a there), h.1)

    go : (b : Bool) → EachSessionOnce (parted s v xs)
        → EachSessionOnce (cond b (kept (less_session s a) xs) (a ∷ parted s v xs))
    go true rest = left (is_empty (removed s a.sessions))
    go false rest = (λ t there. none_parted s t v xs (h.0 t there), rest)

-- ---- the invariant, from that of the tables

above_after : (n : ℕ) (xs : List Audience) → AreAfter n (keys xs) → AreAbove n (numbers xs)
above_after n [] h = tt
above_after n (a ∷ xs) h = (h.0, above_after n xs h.1)

rising_order : (xs : List Audience) → IsInOrder (keys xs) → IsRising (numbers xs)
rising_order [] h = tt
rising_order (a ∷ xs) h = (above_after a.number xs h.0, rising_order xs h.1)

unwatched : (v : View) (xs : List Audience) → number_in v (keys xs) ≡ None
    → is_watched v xs ≡ false
unwatched v [] h = refl
unwatched v (a ∷ xs) h = go (same_view v a.view) h (unwatched v xs)
  where
    go : (b : Bool) → cond b (Some a.number) (number_in v (keys xs)) ≡ None
        → (number_in v (keys xs) ≡ None → is_watched v xs ≡ false)
        → (b || is_watched v xs) ≡ false
    go true k rest = cc
    go false k rest = rest k

views_once : (xs : List Audience) → EachOnce (keys xs) → EachViewOnce xs
views_once [] h = tt
views_once (a ∷ xs) h = (unwatched a.view xs h.0, views_once xs h.1)

pub apart : (xs : List Audience) → IsInOrder (keys xs) → EachOnce (keys xs) → AreFilled xs
    → EachSessionOnce xs → IsAudiences xs
apart xs order once filled sessions = record {
  rising = rising_order xs order;
  views = views_once xs once;
  filled = filled;
  sessions = sessions;
}

-- ---- what a call of the room does

pub watched_same : (s : ℕ) (u v : View) (xs : List Audience) → view_of s xs ≡ Some u → u ≡ v
    → xs ≡ watched s v xs
watched_same s u v xs h same =
    let there : same_view v u ≡ true = rw same (view_itself v) in
    rw (h, there) refl

module _ (s : ℕ) (v : View) (xs : List Audience) (filled : AreFilled xs) where
  pub watched_first : view_of s xs ≡ None → joined (next_number xs) s v xs ≡ watched s v xs
  watched_first h =
      rw h (ap (joined (next_number xs) s v) (sym (without_none s xs filled h)))

  module _ (sessions : EachSessionOnce xs) (views : EachOnce (keys xs)) (u : View)
      (h : view_of s xs ≡ Some u) (other : same_view u v ≡ false) where
    leaves : without s xs ≡ parted s u xs
    leaves = without_parted s u xs filled sessions views h

    pub watched_next : parted s u (joined (next_number xs) s v xs) ≡ watched s v xs
    watched_next =
        let apart : same_view v u ≡ false = view_back v u ∙ other in
        parted_joined (next_number xs) s u v xs other
        ∙ ap (joined (next_number xs) s v) (sym leaves) ∙ rw (h, apart) refl

    pub filled_next : AreFilled (parted s u (joined (next_number xs) s v xs))
    filled_next =
        filled_parted s u (joined (next_number xs) s v xs)
        (filled_joined (next_number xs) s v xs filled)

    pub once_next : EachSessionOnce (parted s u (joined (next_number xs) s v xs))
    once_next =
        let none : view_of s (parted s u xs) ≡ None =
        subst (λ ys. view_of s ys ≡ None) leaves (own_without s xs) in
        subst EachSessionOnce (sym (parted_joined (next_number xs) s u v xs other))
        (once_joined (next_number xs) s v (parted s u xs) none (once_parted s u xs sessions))

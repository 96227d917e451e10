-- The audiences that are visited, one after the other: none has the view of one before.
use Rattle.std.proofs.Common.{◌≡◌, ◌∙◌, ℕ, zero, suc, ◌+◌, ◌<◌, ◌==◌, Bool, true, false, cond}
use Rattle.std.proofs.Common.{List, [], ◌∷◌, ◌++◌, ◌||◌, Option, Some, None, refl, sym, ap, subst}
use Rattle.std.proofs.Common.{arith, nat_eq, length, get_or, take}
use Rattle.std.specs.List.{list_any, All}
use Rattle.std.proofs.lemmas.Bool.Decides.{nat_tests}
use Rattle.std.proofs.lemmas.List.{take_more, map-append, append-nil}
use Rattle.relay_audience.specs.Audiences.{attends, is_view, is_watched, numbered, view_of}
use Rattle.relay_audience.specs.Audiences.{AreExact, EachViewOnce}
use Rattle.relay_audience.specs.ViewOrder.{same_view}
use Rattle.relay_audience.specs.declared.audience.Audience.{Audience}
use Rattle.relay_audience.proofs.Views.{view_back}
use Rattle.relay_view.specs.View.{View}
use Rattle.relay_hub.specs.Session.{Session}
use Rattle.relay_hub.specs.State.{numbers}
use Rattle.relay_hub.specs.Telling.{is_one_of, named, views_of, with_first, IsAudienceOf}
use Rattle.relay_hub.specs.Watched.{view_in, AreAudiencesOf}
use Rattle.relay_hub.proofs.Rising.{same_rises}

-- ---- all in order

pub views_more : (audiences : List Audience) (k : ℕ) (a : Audience) → k < length audiences
    → views_of (take (k + 1) audiences)
    ≡ views_of (take k audiences) ++ (get_or audiences k a).view ∷ []
views_more audiences k a within =
    ap views_of (take_more audiences k a within)
    ∙ map-append (λ (b : Audience). b.view) (take k audiences) (get_or audiences k a ∷ [])

-- a view that no audience has is not that of one of them
not_at : (v : View) (audiences : List Audience) (k : ℕ) (a : Audience) → k < length audiences
    → is_watched v audiences ≡ false → same_view v (get_or audiences k a).view ≡ false
not_at v [] k a within none = absurd (omega (arith, within))
not_at v (b ∷ audiences) zero a within none = go (same_view v b.view) none
  where
    go : (c : Bool) → (c || is_watched v audiences) ≡ false → c ≡ false
    go true h = cc
    go false h = refl
not_at v (b ∷ audiences) (suc k) a within none =
    not_at v audiences k a (omega (arith, within)) (go (same_view v b.view) none)
  where
    go : (c : Bool) → (c || is_watched v audiences) ≡ false → is_watched v audiences ≡ false
    go true h = cc
    go false h = h

-- none before one has its view
pub view_fresh : (audiences : List Audience) (k : ℕ) (a : Audience) → EachViewOnce audiences
    → k < length audiences
    → is_one_of (views_of (take k audiences)) (get_or audiences k a).view ≡ false
view_fresh [] k a once within = absurd (omega (arith, within))
view_fresh (b ∷ audiences) zero a once within = refl
view_fresh (b ∷ audiences) (suc k) a once within =
    let inside : k < length audiences = omega (arith, within) in
    rw (
      view_back (get_or audiences k a).view b.view,
      not_at b.view audiences k a inside once.0,
    ) (view_fresh audiences k a once.1 inside)

-- ---- those with some numbers

none_named : (v : View) (n : ℕ) (audiences : List Audience) (a : Audience)
    → numbered n audiences ≡ Some a → is_watched v audiences ≡ false
    → same_view v a.view ≡ false
none_named v n [] a at none = cc
none_named v n (b ∷ audiences) a at none =
    go (b.number == n) (same_view v b.view) refl at none (none_named v n audiences a)
  where
    go : (c e : Bool) → same_view v b.view ≡ e → cond c (Some b) (numbered n audiences) ≡ Some a
        → (e || is_watched v audiences) ≡ false
        → (numbered n audiences ≡ Some a → is_watched v audiences ≡ false
        → same_view v a.view ≡ false)
        → same_view v a.view ≡ false
    go c true is at h rest = cc
    go true false is at h rest = let same : b ≡ a = cc in rw (← same) is
    go false false is at h rest = rest at h

-- audiences with different numbers have different views
views_apart : (n m : ℕ) (audiences : List Audience) (a b : Audience) → EachViewOnce audiences
    → numbered n audiences ≡ Some a → numbered m audiences ≡ Some b → (n == m) ≡ false
    → same_view a.view b.view ≡ false
views_apart n m [] a b once at there other = cc
views_apart n m (x ∷ audiences) a b once at there other =
    go (x.number == n) (x.number == m) refl refl at there (views_apart n m audiences a b once.1)
  where
    go : (c e : Bool) → (x.number == n) ≡ c → (x.number == m) ≡ e
        → cond c (Some x) (numbered n audiences) ≡ Some a
        → cond e (Some x) (numbered m audiences) ≡ Some b
        → (numbered n audiences ≡ Some a → numbered m audiences ≡ Some b → (n == m) ≡ false
        → same_view a.view b.view ≡ false)
        → same_view a.view b.view ≡ false
    go true true is also h k rest = absurd (grind (arith, nat_tests, is, also, other))
    go true false is also h k rest =
        let same : x ≡ a = cc in
        rw (← same) (none_named x.view m audiences b k once.0)
    go false true is also h k rest =
        let same : x ≡ b = cc in
        rw (← same) (view_back a.view x.view ∙ none_named x.view n audiences a h once.0)
    go false false is also h k rest = rest h k other

pub named_fresh : (audiences : List Audience) (n : ℕ) (a : Audience) (ms : List ℕ)
    → EachViewOnce audiences → numbered n audiences ≡ Some a → list_any (nat_eq n) ms ≡ false
    → is_one_of (views_of (named audiences ms)) a.view ≡ false
named_fresh audiences n a [] once at absent = refl
named_fresh audiences n a (m ∷ ms) once at absent =
    go (nat_eq n m) refl (numbered m audiences) refl absent (named_fresh audiences n a ms once at)
  where
    go : (c : Bool) → nat_eq n m ≡ c → (o : Option Audience) → numbered m audiences ≡ o
        → (c || list_any (nat_eq n) ms) ≡ false
        → (list_any (nat_eq n) ms ≡ false
        → is_one_of (views_of (named audiences ms)) a.view ≡ false)
        → is_one_of (views_of (with_first o (named audiences ms))) a.view ≡ false
    go true is o there h rest = cc
    go false is None there h rest = rest h
    go false is (Some b) there h rest =
        let other : (n == m) ≡ false = grind (arith, nat_tests, is) in
        rw (views_apart n m audiences a b once at there other) (rest h)

named_last : (audiences : List Audience) (ms : List ℕ) (n : ℕ)
    → named audiences (ms ++ n ∷ []) ≡ named audiences ms ++ with_first (numbered n audiences) []
named_last audiences [] n = refl
named_last audiences (m ∷ ms) n = go (numbered m audiences) (named_last audiences ms n)
  where
    go : (o : Option Audience)
        → named audiences (ms ++ n ∷ [])
        ≡ named audiences ms ++ with_first (numbered n audiences) []
        → with_first o (named audiences (ms ++ n ∷ []))
        ≡ with_first o (named audiences ms) ++ with_first (numbered n audiences) []
    go None rest = rest
    go (Some b) rest = ap (λ bs. b ∷ bs) rest

-- one number more
pub named_more : (audiences : List Audience) (ns : List ℕ) (k d : ℕ) (a : Audience)
    → k < length ns → numbered (get_or ns k d) audiences ≡ Some a
    → views_of (named audiences (take (k + 1) ns))
    ≡ views_of (named audiences (take k ns)) ++ a.view ∷ []
named_more audiences ns k d a within at =
    ap (λ ms. views_of (named audiences ms)) (take_more ns k d within)
    ∙ (ap views_of (named_last audiences (take k ns) (get_or ns k d))
    ∙ (map-append (λ (b : Audience). b.view) (named audiences (take k ns))
    (with_first (numbered (get_or ns k d) audiences) [])
    ∙ ap (λ o. views_of (named audiences (take k ns)) ++ views_of (with_first o [])) at))

-- one that no audience has
pub named_none : (audiences : List Audience) (ns : List ℕ) (k d : ℕ) → k < length ns
    → numbered (get_or ns k d) audiences ≡ None
    → views_of (named audiences (take (k + 1) ns)) ≡ views_of (named audiences (take k ns))
named_none audiences ns k d within at =
    ap (λ ms. views_of (named audiences ms)) (take_more ns k d within)
    ∙ (ap views_of (named_last audiences (take k ns) (get_or ns k d))
    ∙ (ap (λ o. views_of (named audiences (take k ns) ++ with_first o [])) at
    ∙ ap views_of (append-nil (named audiences (take k ns)))))

-- ---- who attends

all_numbered : (P : Audience → Type 0) (audiences : List Audience) (n : ℕ) (a : Audience)
    → numbered n audiences ≡ Some a → All P audiences → P a
all_numbered P [] n a at h = cc
all_numbered P (b ∷ audiences) n a at h =
    go (b.number == n) at (λ is.
    all_numbered P audiences n a is (λ i d within. h (suc i) d (omega (arith, within))))
  where
    go : (c : Bool) → cond c (Some b) (numbered n audiences) ≡ Some a
        → (numbered n audiences ≡ Some a → P a) → P a
    go true is rest = let same : b ≡ a = cc in subst P same (h 0 b (omega arith))
    go false is rest = rest is

module _ (audiences : List Audience) (xs : List Session) (agree : AreAudiencesOf audiences xs)
    (exact : AreExact audiences) where
  attends_as : (a : Audience)
      → ((s : ℕ) → attends s a ≡ is_view a.view (view_of s audiences)) → IsAudienceOf a xs
  attends_as a h t = h t ∙ ap (is_view a.view) (agree.agrees t)

  pub audience_at : (k : ℕ) (a : Audience) → k < length audiences → a ≡ get_or audiences k a
      → IsAudienceOf a xs
  audience_at k a within is =
      subst (λ b. IsAudienceOf b xs) (sym is) (attends_as (get_or audiences k a) (λ s.
      exact s k a within))

  pub audience_with : (n : ℕ) (a : Audience) → numbered n audiences ≡ Some a → IsAudienceOf a xs
  audience_with n a at =
      attends_as a (λ s.
      all_numbered (λ b. attends s b ≡ is_view b.view (view_of s audiences)) audiences n a at
      (exact s))

  -- sessions that keep their numbers and views keep their audiences
  pub audiences_stay : (ys : List Session) → numbers ys ≡ numbers xs
      → ((t : ℕ) → view_in ys t ≡ view_in xs t) → AreAudiencesOf audiences ys
  audiences_stay ys same views = record {
    rising = same_rises xs ys same agree.rising;
    agrees = λ t. agree.agrees t ∙ sym (views t);
  }

-- One audience after the other is told of an edit, and then all are that it concerns.
use Rattle.std.proofs.Common.{◌≡◌, ◌∙◌, ℕ, ◌+◌, Bool, true, false}
use Rattle.std.proofs.Common.{cond, List, [], ◌∷◌, ◌++◌, ◌||◌, Option, Some, None, refl, sym, ap}
use Rattle.std.proofs.Common.{arith, nat_eq, option_and_then, subst}
use Rattle.std.specs.List.{list_any}
use Rattle.std.proofs.Math.Bool.{or-false, or-true}
use Rattle.std.proofs.lemmas.List.Folds.{list_any-append}
use Rattle.relay_audience.specs.Audiences.{is_view}
use Rattle.relay_audience.specs.ViewOrder.{same_view}
use Rattle.relay_audience.proofs.Views.{view_is, view_itself, view_back}
use Rattle.relay_room.specs.Room.{State as Room}
use Rattle.relay_room.specs.declared.catch_up.CatchUp.{CatchUp}
use Rattle.relay_tree.specs.Document.{Document}
use Rattle.relay_tree.proofs.Equal.{neither}
use Rattle.relay_tree.specs.declared.budget.Budget.{Budget}
use Rattle.relay_view.specs.View.{View}
use Rattle.relay_hub.specs.Allowance.{Making, after_update, left_after, left_for}
use Rattle.relay_hub.specs.Session.{Session}
use Rattle.relay_hub.specs.State.{numbers, session_in}
use Rattle.relay_hub.specs.Step.{among, NotifiedAs, NotifiedIn}
use Rattle.relay_hub.specs.Telling.{is_one_of, is_some_of, updates_with, NotifiedIf, ToldOne}
use Rattle.relay_hub.specs.Telling.{ToldThose}
use Rattle.relay_hub.specs.Watched.{view_in}
use Rattle.relay_hub.proofs.Allowances.{left_before, left_new, left_more}
use Rattle.relay_hub.proofs.Giving.{among_both}

abbrev pub shown : Option Session → Option View
shown o = option_and_then (λ x. x.view) o

-- nobody is short
pub nobody : (ns : List ℕ) → 0 ≡ among [] ns
nobody [] = refl
nobody (n ∷ ns) = omega (arith, nobody ns)

-- ---- a session keeps its view

module _ (d : Document) (room : Room) (updates : View → CatchUp) where
  as_shown : (v : Option View) (short : Bool) (x y : Session)
      → NotifiedAs d room updates v short x y → y.view ≡ x.view
  as_shown (Some v) true x y h = ap (λ (z : Session). z.view) h.1
  as_shown _ _ x y h = ap (λ (z : Session). z.view) h.0

  in_shown : (short : Bool) (o p : Option Session) → NotifiedIn d room updates short o p
      → shown p ≡ shown o
  in_shown short (Some x) (Some y) h = as_shown x.view short x y h
  in_shown short None None h = refl
  in_shown short _ _ h = absurd h

  pub if_shown : (b short : Bool) (o p : Option Session)
      → NotifiedIf b d room updates short o p → shown p ≡ shown o
  if_shown true short o p h = in_shown short o p h
  if_shown false short o p h = ap shown h.0

module _ (d : Document) (room : Room) (make : Making) (total : Budget) where
  -- before the first
  pub told_none : (xs : List Session) → ToldThose d room make total total [] xs xs 0
  told_none xs = record {
    made = [];
    paid = refl;
    within = λ v absent. refl;
    short = [];
    count = nobody (numbers xs);
    same = refl;
    each = λ t given holds. nothing (view_in xs t) t given;
    all = λ t x v there watches one undue folds. one;
  }
    where
      nothing : (o : Option View) (t : ℕ) (given : View → Budget)
          → NotifiedIf (is_some_of [] o) d room (updates_with make given) false
          (session_in xs t) (session_in xs t)
      nothing None t given = (refl, refl)
      nothing (Some v) t given = (refl, refl)

  module _ (left rest : Budget) (views : List View) (v : View) (xs ys zs : List Session) (n m : ℕ)
      (fresh : is_one_of views v ≡ false)
      (before : ToldThose d room make total left views xs ys n)
      (one : ToldOne d room make left rest v ys zs m) where
    keeps : (t : ℕ) → view_in ys t ≡ view_in xs t
    keeps t =
        let given = left_for make total before.made in
        if_shown d room (updates_with make given) (is_some_of views (view_in xs t))
        (list_any (nat_eq t) before.short) (session_in xs t) (session_in ys t)
        (before.each t given (λ v there. refl))

    -- who watches the view was not told yet
    not_yet : (o : Option View) → is_view v o ≡ true → is_some_of views o ≡ false
    not_yet None is = refl
    not_yet (Some u) is = subst (λ w. is_one_of views w ≡ false) (view_is v u is) fresh

    -- a session is concerned once
    untold : (t : ℕ) → is_view v (view_in ys t) ≡ true → list_any (nat_eq t) before.short ≡ false
    untold t is =
        let given = left_for make total before.made in
        let none = not_yet (view_in xs t) (rw (← keeps t) is) in
        (subst (λ b. NotifiedIf b d room (updates_with make given)
        (list_any (nat_eq t) before.short) (session_in xs t) (session_in ys t)) none
        (before.each t given (λ v there. refl))).1

    abbrev made : List View
    made = cond one.made (before.made ++ v ∷ []) before.made

    absent : is_one_of before.made v ≡ false
    absent = before.within v fresh

    after : rest ≡ left_after make total made
    after = one.paid ∙ go one.made
      where
        go : (b : Bool) → cond b (after_update (make left v) left) left
            ≡ left_after make total (cond b (before.made ++ v ∷ []) before.made)
        go true =
            subst (λ l. after_update (make l v) l
            ≡ left_after make total (before.made ++ v ∷ [])) (sym before.paid)
            (sym (left_more make total before.made v))
        go false = before.paid

    within : (u : View) → is_one_of (views ++ v ∷ []) u ≡ false → is_one_of made u ≡ false
    within u out =
        let both = rw (list_any-append (same_view u) views (v ∷ [])) at out in
        go one.made (is_one_of views u) (same_view u v) refl refl both
      where
        go : (b c e : Bool) → is_one_of views u ≡ c → same_view u v ≡ e
            → (c || (e || false)) ≡ false
            → is_one_of (cond b (before.made ++ v ∷ []) before.made) u ≡ false
        go b true e is at h = cc
        go b false true is at h = cc
        go true false false is at h =
            rw (list_any-append (same_view u) before.made (v ∷ []), before.within u is, at) refl
        go false false false is at h = before.within u is

    counted : n + m ≡ among (before.short ++ one.short) (numbers xs)
    counted =
        let second : m ≡ among one.short (numbers xs) =
        one.count ∙ ap (among one.short) before.same in
        let sum = among_both before.short one.short (numbers xs) apart in
        omega (arith, sum, before.count, second)
      where
        unnamed : (t : ℕ) (given : View → Budget) → (one.made ≡ true → given v ≡ left) → (b : Bool)
            → is_view v (view_in ys t) ≡ b → list_any (nat_eq t) before.short ≡ true
            → list_any (nat_eq t) one.short ≡ false
        unnamed t given holds true is short = absurd (cc (short, untold t is))
        unnamed t given holds false is short =
            (subst (λ b. NotifiedIf b d room (updates_with make given)
            (list_any (nat_eq t) one.short) (session_in ys t) (session_in zs t)) is
            (one.each t given holds)).1

        apart : (t : ℕ) → list_any (nat_eq t) before.short ≡ true
            → list_any (nat_eq t) one.short ≡ false
        apart t short = unnamed t (λ u. left) (λ b. refl) (is_view v (view_in ys t)) refl short

    module _ (t : ℕ) (given : View → Budget)
        (holds : (u : View) → is_one_of made u ≡ true → given u ≡ left_for make total made u) where
      was_left : (u : View) → is_one_of before.made u ≡ true
          → given u ≡ left_for make total before.made u
      was_left u there = go one.made refl
        where
          go : (b : Bool) → one.made ≡ b → given u ≡ left_for make total before.made u
          go true is =
              let now : is_one_of (before.made ++ v ∷ []) u ≡ true =
              rw (list_any-append (same_view u) before.made (v ∷ []), there) refl in
              (rw is at (holds u)) now ∙ left_before make total before.made v u there
          go false is = (rw is at (holds u)) there

      is_left : one.made ≡ true → given v ≡ left
      is_left is =
          let now : is_one_of (before.made ++ v ∷ []) v ≡ true =
          rw (list_any-append (same_view v) before.made (v ∷ []), view_itself v)
          (or-true (is_one_of before.made v)) in
          (rw is at (holds v)) now ∙ (left_new make total before.made v absent ∙ sym before.paid)

      first : NotifiedIf (is_some_of views (view_in xs t)) d room (updates_with make given)
          (list_any (nat_eq t) before.short) (session_in xs t) (session_in ys t)
      first = before.each t given was_left

      second : NotifiedIf (is_view v (view_in ys t)) d room (updates_with make given)
          (list_any (nat_eq t) one.short) (session_in ys t) (session_in zs t)
      second = one.each t given is_left

      either : (a b : Bool) (s r : Bool) (o p q : Option Session) → (b ≡ true → a ≡ false)
          → NotifiedIf a d room (updates_with make given) s o p
          → NotifiedIf b d room (updates_with make given) r p q
          → NotifiedIf (a || b) d room (updates_with make given) (s || r) o q
      either true true s r o p q once h k = absurd (cc (once refl))
      either true false s r o p q once h k =
          rw (k.1, or-false s) (subst (λ x. NotifiedIn d room (updates_with make given) s o x)
          (sym k.0) h)
      either false true s r o p q once h k =
          rw h.1 (subst (λ x. NotifiedIn d room (updates_with make given) r x q) h.0 k)
      either false false s r o p q once h k = (k.0 ∙ h.0, rw (h.1, k.1) refl)

      concerned : (o : Option View)
          → is_some_of (views ++ v ∷ []) o ≡ (is_some_of views o || is_view v o)
      concerned None = refl
      concerned (Some u) =
          list_any-append (same_view u) views (v ∷ [])
          ∙ ap (λ b. is_one_of views u || b) (or-false (same_view u v) ∙ view_back u v)

      each : NotifiedIf (is_some_of (views ++ v ∷ []) (view_in xs t)) d room
          (updates_with make given) (list_any (nat_eq t) (before.short ++ one.short))
          (session_in xs t) (session_in zs t)
      each =
          rw (concerned (view_in xs t), list_any-append (nat_eq t) before.short one.short)
          (either (is_some_of views (view_in xs t)) (is_view v (view_in xs t))
          (list_any (nat_eq t) before.short) (list_any (nat_eq t) one.short) (session_in xs t)
          (session_in ys t) (session_in zs t) (not_yet (view_in xs t)) first
          (rw (keeps t) at second))

    -- whoever watches one of the views has had its update made
    all : (t : ℕ) (x : Session) (u : View) → session_in xs t ≡ Some x → x.view ≡ Some u
        → is_one_of (views ++ v ∷ []) u ≡ true → x.outbox.due ≡ false
        → list_any (nat_eq t) (before.short ++ one.short) ≡ false → is_one_of made u ≡ true
    all t x u there watches some undue folds =
        let apart = neither (list_any (nat_eq t) before.short) (list_any (nat_eq t) one.short)
        (rw (list_any-append (nat_eq t) before.short one.short) at folds) in
        go (is_one_of views u) refl (same_view u v) refl one.made refl
        (rw (list_any-append (same_view u) views (v ∷ [])) at some) apart
      where
        shows : view_in xs t ≡ Some u
        shows = rw there watches

        grown : (b : Bool) → is_one_of before.made u ≡ true
            → is_one_of (cond b (before.made ++ v ∷ []) before.made) u ≡ true
        grown true was = rw (list_any-append (same_view u) before.made (v ∷ []), was) refl
        grown false was = was

        now : same_view u v ≡ true → is_one_of (before.made ++ v ∷ []) u ≡ true
        now is =
            rw (list_any-append (same_view u) before.made (v ∷ []), is)
            (or-true (is_one_of before.made u))

        -- it was not told before, so its session is as it was
        as_before : is_one_of views u ≡ false → session_in ys t ≡ Some x
        as_before none =
            let given = left_for make total before.made in
            let unseen : is_some_of views (view_in xs t) ≡ false = rw shows none in
            (subst (λ b. NotifiedIf b d room (updates_with make given)
            (list_any (nat_eq t) before.short) (session_in xs t) (session_in ys t)) unseen
            (before.each t given (λ v there. refl))).0 ∙ there

        go : (c : Bool) → is_one_of views u ≡ c → (e : Bool) → same_view u v ≡ e → (b : Bool)
            → one.made ≡ b → (c || (e || false)) ≡ true
            → (list_any (nat_eq t) before.short ≡ false) × (list_any (nat_eq t) one.short ≡ false)
            → is_one_of (cond b (before.made ++ v ∷ []) before.made) u ≡ true
        go true one_of e same b is h apart =
            grown b (before.all t x u there watches one_of undue apart.0)
        go false none true same true is h apart = now same
        go false none true same false is h apart =
            let shown : is_view v x.view ≡ true = rw watches (sym (view_back u v) ∙ same) in
            absurd (cc (one.unmade is t x (as_before none) shown undue, apart.1))
        go false none false same b is h apart = absurd (cc h)

    -- one audience more is told
    pub told_more : ToldThose d room make total rest (views ++ v ∷ []) xs zs (n + m)
    told_more = record {
      made = made;
      paid = after;
      within = within;
      short = before.short ++ one.short;
      count = counted;
      same = one.same ∙ before.same;
      each = each;
      all = all;
    }

-- a session that is told keeps its view
pub told_views : (d : Document) (room : Room) (make : Making) (left rest : Budget) (v : View)
    (xs ys : List Session) (n : ℕ) → ToldOne d room make left rest v xs ys n
    → (t : ℕ) → view_in ys t ≡ view_in xs t
told_views d room make left rest v xs ys n one t =
    if_shown d room (updates_with make (λ u. left)) (is_view v (view_in xs t))
    (list_any (nat_eq t) one.short) (session_in xs t) (session_in ys t)
    (one.each t (λ u. left) (λ b. refl))

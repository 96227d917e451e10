-- The audiences of a room's sessions, as the sessions change.
use Rattle.std.proofs.Common.{◌≡◌, ℕ, ◌==◌, Bool, true, false, List, [], ◌∷◌, ◌++◌, Option, Some}
use Rattle.std.proofs.Common.{None, refl, sym, ◌∙◌, ap, arith, option_and_then, if◌then◌else◌}
use Rattle.relay_audience.specs.Audiences.{view_of, ChangesViewOf}
use Rattle.relay_audience.specs.declared.audience.Audience.{Audience}
use Rattle.relay_patch.specs.declared.change.Change.{Change}
use Rattle.relay_room.specs.Room.{State as Room}
use Rattle.relay_room.specs.declared.catch_up.CatchUp.{CatchUp}
use Rattle.relay_tree.specs.Document.{Document}
use Rattle.relay_tree.specs.declared.budget.Budget.{Budget}
use Rattle.relay_view.specs.View.{View}
use Rattle.relay_hub.specs.Call.{IsAbove}
use Rattle.relay_hub.specs.Session.{Session}
use Rattle.relay_hub.specs.State.{IsRising, session_in}
use Rattle.relay_hub.specs.Step.{OnlyAt, NotifiedAs, NotifiedIn, AllNotified}
use Rattle.relay_hub.specs.Watched.{AreAudiencesOf}
use Rattle.relay_hub.proofs.Cases.{by_number}
use Rattle.relay_hub.proofs.Sessions.{push_last}
use Rattle.relay_hub.proofs.Rising.{same_rises, joined_rises, one_rises}

-- the view of a session, if it is there and watches
abbrev pub shown : Option Session → Option View
shown o = option_and_then (λ x. x.view) o

-- One session differs.

of_either : (b : Bool) (o p : Option Session)
    → (if b then shown o else shown p) ≡ shown (if b then o else p)
of_either true o p = refl
of_either false o p = refl

-- it is in the audience of its view, if it watches, and every other session stays in its own
pub only_agrees : (old new : List Audience) (xs ys : List Session) (s : ℕ) (o : Option Session)
    → OnlyAt s o xs ys → IsRising ys → ChangesViewOf s (shown o) old new → AreAudiencesOf old xs
    → AreAudiencesOf new ys
only_agrees old new xs ys s o only rising changes h = record {
  rising = rising;
  agrees =
      λ t. changes t ∙ (ap (λ v. if s == t then shown o else v) (h.agrees t)
      ∙ (of_either (s == t) o (session_in xs t) ∙ ap shown (sym (only.found t))));
}

-- audiences that are the same change the view of nobody
pub unchanged_view : (audiences : List Audience) (s : ℕ) (v : Option View)
    → view_of s audiences ≡ v → ChangesViewOf s v audiences audiences
unchanged_view audiences s v has t =
    by_number (λ t b. view_of t audiences ≡ (if b then v else view_of t audiences)) s t has
    (λ other. refl)

-- it watches as before
pub same_agrees : (audiences : List Audience) (xs ys : List Session) (s : ℕ) (o : Option Session)
    → OnlyAt s o xs ys → IsRising ys → shown o ≡ shown (session_in xs s)
    → AreAudiencesOf audiences xs → AreAudiencesOf audiences ys
same_agrees audiences xs ys s o only rising view h =
    only_agrees audiences audiences xs ys s o only rising
    (unchanged_view audiences s (shown o) (h.agrees s ∙ sym view)) h

-- A session is added that watches nothing.

pub joined_agrees : (audiences : List Audience) (xs : List Session) (y : Session)
    → IsAbove y.number xs → y.view ≡ None → AreAudiencesOf audiences xs
    → AreAudiencesOf audiences (xs ++ y ∷ [])
joined_agrees audiences xs y above none h =
    let fresh = above y.number (omega arith) in
    same_agrees audiences xs (xs ++ y ∷ []) y.number (Some y) (push_last xs y fresh)
    (joined_rises xs y above h.rising) (none ∙ ap shown (sym fresh)) h

pub first_agrees : (x : Session) → x.view ≡ None → AreAudiencesOf [] (x ∷ [])
first_agrees x none = record {
  rising = one_rises x;
  agrees = λ t. none_of (x.number == t);
}
  where
    none_of : (b : Bool) → None ≡ shown (if b then Some x else None)
    none_of true = sym none
    none_of false = refl

-- Notifying changes no view.

module _ (d : Document) (room : Room) (updates : View → CatchUp) where
  as_shown : (v : Option View) (short : Bool) (x y : Session)
      → NotifiedAs d room updates v short x y → x.view ≡ y.view
  as_shown (Some v) true x y h = ap (λ (z : Session). z.view) (sym h.1)
  as_shown _ _ x y h = ap (λ (z : Session). z.view) (sym h.0)

  in_shown : (short : Bool) (o p : Option Session) → NotifiedIn d room updates short o p
      → shown o ≡ shown p
  in_shown short (Some x) (Some y) h = as_shown x.view short x y h
  in_shown short None None h = refl
  in_shown short _ _ h = absurd h

pub notified_agrees : (d : Document) (changes : List Change) (room : Room) (most total : Budget)
    (xs ys : List Session) (n : ℕ) → AllNotified d changes room most total xs ys n
    → (audiences : List Audience) → AreAudiencesOf audiences xs → AreAudiencesOf audiences ys
notified_agrees d changes room most total xs ys n notified audiences h = record {
  rising = same_rises xs ys notified.same h.rising;
  agrees = λ t. h.agrees t
      ∙ in_shown d room _ _ (session_in xs t) (session_in ys t) (notified.each t);
}

-- The audiences of a room, in the order in which they came, and what they are after a session
-- watches a view or stops to watch.
use Rattle.std.specs.Prelude.{◌≡◌, ℕ, suc, ◌==◌, nat_eq, max, Bool, true, false, ⊤}
use Rattle.std.specs.Prelude.{List, [], ◌∷◌, map, Option, Some, None, option_map, is_some}
use Rattle.std.specs.Prelude.{if◌then◌else◌}
use Rattle.std.specs.List.{All, list_any}
use Rattle.relay_tree.specs.Document.{Document}
use Rattle.relay_patch.specs.declared.change.Change.{Change}
use Rattle.relay_view.specs.View.{View}
use Rattle.relay_translate.specs.Translate.{local}
use Rattle.relay_translate.specs.Watches.{is_touched, slots_of}
use Rattle.relay_audience.specs.Sessions.{inserted, is_empty, removed, IsRising}
use Rattle.relay_audience.specs.ViewOrder.{same_view}
use Rattle.relay_audience.specs.declared.audience.Audience.{Audience}

-- whether the session is in the audience
abbrev pub attends : ℕ → Audience → Bool
attends s a = list_any (nat_eq s) a.sessions

-- the view that the session watches, if it is in an audience
abbrev pub view_of : ℕ → List Audience → Option View
view_of s [] = None
view_of s (a ∷ audiences) = if attends s a then Some a.view else view_of s audiences

-- it is this view
abbrev pub is_view : View → Option View → Bool
is_view v None = false
is_view v (Some u) = same_view v u

-- ---- what a session does

-- the least number above those of all audiences
abbrev pub next_number : List Audience → ℕ
next_number [] = 0
next_number (a ∷ audiences) = max (suc a.number) (next_number audiences)

-- the audience with the session too
abbrev pub with_session : ℕ → Audience → Audience
with_session s a = record a { sessions = inserted s a.sessions }

-- the audience without the session
abbrev pub less_session : ℕ → Audience → Audience
less_session s a = record a { sessions = removed s a.sessions }

-- an audience in front of others; one without sessions goes
abbrev pub kept : Audience → List Audience → List Audience
kept a audiences = if is_empty a.sessions then audiences else a ∷ audiences

-- The session joins the audience of the view. If there is none, it is the first one in a new
-- audience with that number, behind the others.
abbrev pub joined : ℕ → ℕ → View → List Audience → List Audience
joined n s v [] = record { number = n; view = v; sessions = s ∷ [] } ∷ []
joined n s v (a ∷ audiences) =
    if same_view v a.view then with_session s a ∷ audiences else a ∷ joined n s v audiences

-- The session leaves its audience, which goes if it was the last one in it.
abbrev pub without : ℕ → List Audience → List Audience
without s [] = []
without s (a ∷ audiences) = kept (less_session s a) (without s audiences)

-- The session watches the view in place of any other. If it does already, nothing changes.
abbrev pub watched : ℕ → View → List Audience → List Audience
watched s v audiences =
    if is_view v (view_of s audiences) then audiences
    else joined (next_number audiences) s v (without s audiences)

-- of all views that sessions watch, only that of session s may differ: now it is o
abbrev pub ChangesViewOf : ℕ → Option View → List Audience → List Audience → Type 0
ChangesViewOf s o old new = (t : ℕ) → view_of t new ≡ (if s == t then o else view_of t old)

-- ---- what an edit finds

-- the audience with that number
abbrev pub numbered : ℕ → List Audience → Option Audience
numbered n [] = None
numbered n (a ∷ audiences) = if a.number == n then Some a else numbered n audiences

-- the slots of the audience with that number; none if there is no such audience
abbrev pub slots_at : List Audience → ℕ → View
slots_at audiences n = slots_of (option_map (λ a. a.view) (numbered n audiences))

-- some change is not apart from what some slot of the audience shows
abbrev pub sees : List Change → List Audience → ℕ → Bool
sees changes audiences n = list_any (is_touched changes) (slots_at audiences n)

-- the numbers of the audiences with such a slot, in the order in which they came
abbrev pub numbers_touched : List Change → List Audience → List ℕ
numbers_touched changes [] = []
numbers_touched changes (a ∷ audiences) =
    if list_any (is_touched changes) a.view then a.number ∷ numbers_touched changes audiences
    else numbers_touched changes audiences

-- for every audience that is not named, the changes translate to no operation on its view, whatever
-- document they led to
abbrev pub OthersStay : List Change → List Audience → List ℕ → Type 0
OthersStay changes audiences named = (n : ℕ) (now : Document) → list_any (nat_eq n) named ≡ false
    → local changes now (slots_at audiences n) ≡ []

-- ---- what is true of all audiences of a room

-- the number of each audience
abbrev pub numbers : List Audience → List ℕ
numbers audiences = map (λ a. a.number) audiences

-- whether the view is that of an audience
abbrev pub is_watched : View → List Audience → Bool
is_watched v audiences = list_any (λ a. same_view v a.view) audiences

-- no two audiences have the same view
abbrev pub EachViewOnce : List Audience → Type 0
EachViewOnce [] = ⊤
EachViewOnce (a ∷ audiences) = (is_watched a.view audiences ≡ false) × EachViewOnce audiences

-- each audience has a session
abbrev pub AreFilled : List Audience → Type 0
AreFilled [] = ⊤
AreFilled (a ∷ audiences) = (is_empty a.sessions ≡ false) × AreFilled audiences

-- no session is in two audiences
abbrev pub EachSessionOnce : List Audience → Type 0
EachSessionOnce [] = ⊤
EachSessionOnce (a ∷ audiences) =
    ((s : ℕ) → attends s a ≡ true → view_of s audiences ≡ None) × EachSessionOnce audiences

-- each session that watches is in exactly the audience of its view
abbrev pub AreExact : List Audience → Type 0
AreExact audiences =
    (s : ℕ) → All (λ a. attends s a ≡ is_view a.view (view_of s audiences)) audiences

-- the sessions of all audiences together are those that watch
abbrev pub AreComplete : List Audience → Type 0
AreComplete audiences = (s : ℕ) → list_any (attends s) audiences ≡ is_some (view_of s audiences)

-- The invariant of each room's audiences.
pub record IsAudiences (audiences : List Audience) : Type 0 where
  pub rising : IsRising (numbers audiences)
  pub views : EachViewOnce audiences
  pub filled : AreFilled audiences
  pub sessions : EachSessionOnce audiences

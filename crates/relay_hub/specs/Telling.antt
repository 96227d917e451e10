-- The work on an edit's watchers: an update is made for one audience after the other, and is given
-- to each of its sessions.
use Rattle.std.specs.Prelude.{ℕ, ◌≡◌, ◌-◌, nat_eq, Bool, true, false, List, [], ◌∷◌}
use Rattle.std.specs.Prelude.{Option, Some, None, if◌then◌else◌, map, IsSome}
use Rattle.std.specs.List.{list_any}
use Rattle.relay_audience.specs.Audiences.{attends, is_view, numbered}
use Rattle.relay_audience.specs.ViewOrder.{same_view}
use Rattle.relay_audience.specs.declared.audience.Audience.{Audience}
use Rattle.relay_history.specs.History.{changes_since}
use Rattle.relay_outbox.specs.Outbox.{folded}
use Rattle.relay_patch.specs.Change.{Leads}
use Rattle.relay_patch.specs.declared.change.Change.{Change}
use Rattle.relay_room.specs.CatchUp.{MakesPresent, Fits}
use Rattle.relay_room.specs.Room.{State as Room, revision}
use Rattle.relay_room.specs.declared.catch_up.CatchUp.{CatchUp}
use Rattle.relay_tree.specs.Document.{Document}
use Rattle.relay_tree.specs.declared.budget.Budget.{Budget}
use Rattle.relay_view.specs.View.{View}
use Rattle.relay_hub.specs.Allowance.{Making, after_update, left_after, left_for}
use Rattle.relay_hub.specs.Session.{Session, with_outbox}
use Rattle.relay_hub.specs.State.{numbers, session_in}
use Rattle.relay_hub.specs.Step.{among, telling, NotifiedIn}
use Rattle.relay_hub.specs.Update.{heard, update_of}
use Rattle.relay_hub.specs.Watched.{view_in}
use Rattle.relay_hub.specs.declared.update.Update.{Update}

-- ---- an update

-- what is true of the newest edit, whatever document it was applied to
abbrev pub OfNewest : Room → (Document → List Change → Type 0) → Type 0
OfNewest room P = (d : Document) (changes : List Change)
    → changes ≡ changes_since (revision room - 1) room.history
    → Leads d changes room.document → P d changes

-- the update is what an edit from the document d by some changes means to a view, within a budget
pub record Tells (budget : Budget) (room : Room) (pointers : View) (update : Update)
    (d : Document) (changes : List Change) : Type 0 where
  pub notified : update ≡ update_of (revision room) (telling budget changes room pointers)
  pub makes : MakesPresent room pointers d (telling budget changes room pointers)
  pub fits : Fits (telling budget changes room pointers)

-- ---- the sessions of one audience

-- a session is given an update, or none if memory ran out for it. Where a snapshot is due, nothing
-- changes; an outbox that is short folds
abbrev pub Given : Option Update → Bool → Session → Session → Type 0
Given update true x y = (x.outbox.due ≡ false) × (y ≡ with_outbox (folded x.outbox) x)
Given (Some update) false x y =
    y ≡ with_outbox (if x.outbox.due then x.outbox else heard x.budget update x.outbox) x
Given None false x y = (x.outbox.due ≡ true) × (y ≡ x)

-- a session with one of the numbers, if it is there, is given the update; no other changes
abbrev pub GivenIf : Bool → Option Update → Bool → Option Session → Option Session → Type 0
GivenIf true update short (Some x) (Some y) = Given update short x y
GivenIf true update short None None = short ≡ false
GivenIf true update short (Some x) None = ⊥
GivenIf true update short None (Some y) = ⊥
GivenIf false update short o p = (p ≡ o) × (short ≡ false)

-- The sessions with these numbers are given the update, and so many of their outboxes fold because
-- memory ran out.
pub record GivenTo (update : Option Update) (named : List ℕ) (xs ys : List Session) (n : ℕ) : Type 0
  where
    pub short : List ℕ
    pub count : n ≡ among short (numbers xs)
    pub same : numbers ys ≡ numbers xs
    pub each : (t : ℕ) → GivenIf (list_any (nat_eq t) named) update (list_any (nat_eq t) short)
        (session_in xs t) (session_in ys t)

-- the audience has the sessions that watch its view
abbrev pub IsAudienceOf : Audience → List Session → Type 0
IsAudienceOf a xs = (t : ℕ) → attends t a ≡ is_view a.view (view_in xs t)

-- a snapshot is due for each session with one of these numbers
abbrev pub AreDue : List ℕ → List Session → Type 0
AreDue named xs = (t : ℕ) (x : Session) → list_any (nat_eq t) named ≡ true
    → session_in xs t ≡ Some x → x.outbox.due ≡ true

-- each session with one of these numbers watches
abbrev pub AreWatching : List ℕ → List Session → Type 0
AreWatching named xs = (t : ℕ) (x : Session) → list_any (nat_eq t) named ≡ true
    → session_in xs t ≡ Some x → IsSome x.view

-- ---- one audience after the other

abbrev pub with_first : Option Audience → List Audience → List Audience
with_first None audiences = audiences
with_first (Some a) audiences = a ∷ audiences

-- the audiences with these numbers, in order
abbrev pub named : List Audience → List ℕ → List Audience
named audiences [] = []
named audiences (n ∷ ns) = with_first (numbered n audiences) (named audiences ns)

abbrev pub views_of : List Audience → List View
views_of audiences = map (λ a. a.view) audiences

-- a session that is to be notified is; any other is unchanged
abbrev pub NotifiedIf : Bool → Document → Room → (View → CatchUp) → Bool → Option Session
    → Option Session → Type 0
NotifiedIf true d room updates short o p = NotifiedIn d room updates short o p
NotifiedIf false d room updates short o p = (p ≡ o) × (short ≡ false)

-- the updates that are made for an edit when so much is left for each view
abbrev pub updates_with : Making → (View → Budget) → View → CatchUp
updates_with make left v = make (left v) v

-- The sessions that watch a view are notified, when so much is left, and afterwards the rest is. No
-- update is made only if a snapshot is due for each of them, or memory runs out.
pub record ToldOne (d : Document) (room : Room) (make : Making) (left rest : Budget) (v : View)
    (xs ys : List Session) (n : ℕ) : Type 0 where
  pub made : Bool
  pub paid : rest ≡ (if made then after_update (make left v) left else left)
  pub short : List ℕ
  pub count : n ≡ among short (numbers xs)
  pub same : numbers ys ≡ numbers xs
  pub each : (t : ℕ) (given : View → Budget) → (made ≡ true → given v ≡ left)
      → NotifiedIf (is_view v (view_in xs t)) d room (updates_with make given)
      (list_any (nat_eq t) short) (session_in xs t) (session_in ys t)
  pub unmade : made ≡ false → (t : ℕ) (x : Session) → session_in xs t ≡ Some x
      → is_view v x.view ≡ true → x.outbox.due ≡ false → list_any (nat_eq t) short ≡ true

-- the view is one of these
abbrev pub is_one_of : List View → View → Bool
is_one_of views v = list_any (same_view v) views

abbrev pub is_some_of : List View → Option View → Bool
is_some_of views None = false
is_some_of views (Some v) = is_one_of views v

-- The sessions that watch one of these views are notified, and the rest of a budget is left.
pub record ToldThose (d : Document) (room : Room) (make : Making) (total rest : Budget)
    (views : List View) (xs ys : List Session) (n : ℕ) : Type 0 where
  -- the views for which updates were made, in order
  pub made : List View
  pub paid : rest ≡ left_after make total made
  pub within : (v : View) → is_one_of views v ≡ false → is_one_of made v ≡ false
  pub short : List ℕ
  pub count : n ≡ among short (numbers xs)
  pub same : numbers ys ≡ numbers xs
  pub each : (t : ℕ) (given : View → Budget)
      → ((v : View) → is_one_of made v ≡ true → given v ≡ left_for make total made v)
      → NotifiedIf (is_some_of views (view_in xs t)) d room (updates_with make given)
      (list_any (nat_eq t) short) (session_in xs t) (session_in ys t)
  -- none of these views is left out, unless a snapshot is due for its sessions, or they fold
  pub all : (t : ℕ) (x : Session) (v : View) → session_in xs t ≡ Some x → x.view ≡ Some v
      → is_one_of views v ≡ true → x.outbox.due ≡ false → list_any (nat_eq t) short ≡ false
      → is_one_of made v ≡ true

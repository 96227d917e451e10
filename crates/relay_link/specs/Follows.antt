-- The changes of the hub by a link: its events, one step after another.
use Rattle.std.specs.Prelude.{◌≡◌, ℕ, List, [], ◌∷◌, ◌++◌, Option, Some, None}
use Rattle.relay_hub.specs.Log.{Log, entry}
use Rattle.relay_hub.specs.State.{State}
use Rattle.relay_hub.specs.Step.{Step}
use Rattle.relay_hub.specs.declared.event.Answer.{Answer}
use Rattle.relay_hub.specs.declared.event.Answer.TheVariants.{Opened, Drawn}
use Rattle.relay_hub.specs.declared.event.Event.{Event}
use Rattle.relay_hub.specs.declared.event.Event.TheVariants.{Open, Receive, Draw, Close}
use Rattle.relay_access.specs.declared.access.Access.{Access}

-- a hub, the session that a link has in it, and the events that the link has made so far
pub record Point : Type 0 where
  pub hub : State
  pub session : Option ℕ
  pub events : List Event

abbrev pub at : State → Option ℕ → List Event → Point
at hub session events = record { hub = hub; session = session; events = events }

-- the rooms that may be opened, by name, and with which access
abbrev pub Rooms : Type 1
Rooms = List ℕ → Access → Type 0

-- no session is opened
abbrev pub no_opening : Rooms
no_opening room access = ⊥

-- a session may be opened in this room, with this access
abbrev pub is_room : List ℕ → Access → Rooms
is_room name given room access = (room ≡ name) × (access ≡ given)

-- A link without a session may open one in some rooms, with some access. Any other event names the
-- link's own session: it does no will, and forgets no room.
abbrev pub IsOwn : Rooms → Option ℕ → Event → Type 0
IsOwn rooms session (Open room access) = (session ≡ None) × rooms room access
IsOwn rooms session (Receive s text) = session ≡ Some s
IsOwn rooms session (Draw s) = session ≡ Some s
IsOwn rooms session (Close s) = session ≡ Some s
IsOwn rooms session event = ⊥

-- the link's session after an event with its answer: the one that was opened, until it is closed
abbrev pub session_after : Option ℕ → Event → Answer → Option ℕ
session_after session (Open room access) (Opened o) = Some o.session
session_after session (Close s) answer = None
session_after session event answer = session

-- The second point is reached from the first by the events that were appended. Each is the link's
-- own, and is a step of the hub with some answer, which is never out of memory. No other room is
-- opened than one of these, and with no other access.
pub data Follows (rooms : Rooms) : Point → Point → Type 0 where
  stays : {p : Point} → Follows rooms p p
  makes : {p q : Point} {hub : State} (event : Event) (answer : Answer) → Follows rooms p q
      → IsOwn rooms q.session event → Step q.hub event answer hub
      → Follows rooms p (at hub (session_after q.session event answer) (q.events ++ event ∷ []))

-- a log with the entries of the events between two points
abbrev pub with_events : {rooms : Rooms} {p q : Point} → Follows rooms p q → Log → Log
with_events stays E = E
with_events (makes event answer before own step) E = entry event answer ∷ with_events before E

-- the text that an event drew, if it drew one
abbrev pub given : Option (List ℕ) → List (List ℕ)
given None = []
given (Some text) = text ∷ []

abbrev pub drawn_by : Event → Answer → List (List ℕ)
drawn_by (Draw s) (Drawn text) = given text
drawn_by event answer = []

-- the texts that the events between two points drew, in order
abbrev pub drawn : {rooms : Rooms} {p q : Point} → Follows rooms p q → List (List ℕ)
drawn stays = []
drawn (makes event answer before own step) = drawn before ++ drawn_by event answer

-- the one event that closes a session, if there is one
abbrev pub closing_of : Option ℕ → List Event
closing_of (Some s) = Close s ∷ []
closing_of None = []

-- The contract of a visit: a session that opens, says one text, draws what waits and closes.
use Rattle.std.specs.Prelude.{◌≡◌, ◌+◌, ◌<◌, ◌≤◌, ◌⊎◌, ⊤, ℕ, Bool, true, false, List, [], ◌∷◌, ◌++◌}
use Rattle.std.specs.Prelude.{length, Option, None, Some, option_to_list, Result, Ok, Err}
use Rattle.relay_hub.specs.Call.{opening}
use Rattle.relay_hub.specs.State.{State as Hub}
use Rattle.relay_hub.specs.declared.event.Answer.{Answer}
use Rattle.relay_hub.specs.declared.event.Event.{Event}
use Rattle.relay_hub.specs.declared.event.Event.TheVariants.{Open}
use Rattle.relay_hub.specs.declared.event.Opening.{Opening}
use Rattle.relay_hub.specs.declared.fault.OpenFault.{OpenFault}
use Rattle.relay_hub.specs.declared.fault.OpenFault.TheVariants.{NoMemory}
use Rattle.relay_access.specs.declared.access.Access.{Access}
use Rattle.relay_link.specs.Adds.{draws}
use Rattle.relay_link.specs.Follows.{Point, Rooms, is_room, at, Follows, stays, makes, drawn}
use Rattle.relay_link.specs.Hears.{received}
use Rattle.relay_link.specs.declared.visit.TheConstants.{MAX_TEXTS}
use Rattle.relay_link.specs.declared.visit.Visit.{Visit}
use Rattle.relay_link.specs.declared.visit_outcome.VisitOutcome.{VisitOutcome}
use Rattle.relay_link.specs.declared.visit_outcome.VisitOutcome.TheVariants.{Refused, Unheard}
use Rattle.relay_link.specs.declared.visit_outcome.VisitOutcome.TheVariants.{Undrawn, Answered}

-- the answers to the openings among the events between two points, in order
abbrev pub opened_by : Event → Answer → List Answer
opened_by (Open room access) answer = answer ∷ []
opened_by event answer = []

abbrev pub openings : {rooms : Rooms} {p q : Point} → Follows rooms p q → List Answer
openings stays = []
openings (makes event answer before own step) = openings before ++ opened_by event answer

-- the events from one point to another got these answers to openings, and drew these texts
pub record Opens (rooms : Rooms) (answers : List Answer) (texts : List (List ℕ)) (p q : Point)
    : Type 0 where
  pub follows : Follows rooms p q
  pub answers_are : openings follows ≡ answers
  pub texts_are : drawn follows ≡ texts

-- the session that an opening gave
abbrev pub entered_as : Result Opening OpenFault → Option ℕ
entered_as (Ok o) = Some o.session
entered_as (Err fault) = None

-- what the opening of a visit came to
abbrev pub opening_of : VisitOutcome → Result Opening OpenFault
opening_of (Refused fault) = Err fault
opening_of (Unheard o) = Ok o
opening_of (Undrawn o) = Ok o
opening_of (Answered o) = Ok o

-- the texts of a visit that the hub heard: the one that it had to say, or none
abbrev pub heard_in : VisitOutcome → List ℕ → List (List ℕ)
heard_in (Undrawn o) text = text ∷ []
heard_in (Answered o) text = text ∷ []
heard_in _ text = []

-- Between two lists of events nothing was left that waits, since there are more draws than texts
-- that were drawn; or these are as many as a visit draws.
abbrev pub DrewAll : {A : Type 0} → List Event → List Event → List A → Type 0
DrewAll before after texts =
    (draws before + length texts < draws after) ⊎ (length texts ≡ MAX_TEXTS)

-- whether memory was refused in a visit
abbrev pub lacked_memory : VisitOutcome → Bool
lacked_memory (Refused NoMemory) = true
lacked_memory (Refused fault) = false
lacked_memory (Unheard o) = true
lacked_memory (Undrawn o) = true
lacked_memory (Answered o) = false

abbrev pub IfAnswered : VisitOutcome → Type 0 → Type 0
IfAnswered (Answered o) holds = holds
IfAnswered _ holds = ⊤

-- A visit of a room, with an access and a text to say, from the hub before it to the one after it.
pub record Visits (room : List ℕ) (access : Access) (text : List ℕ) (hub next : Hub) (visit : Visit)
    : Type 0 where
  -- The hub changed by exactly the events of the visit. They are those of one session, which was
  -- opened in the room with that access, and was closed: none is left. Its opening had the answer
  -- that the visit reports, and its draws gave the texts of the visit.
  pub opens : Opens (is_room room access) (option_to_list (opening (opening_of visit.outcome)))
      visit.texts.items (at hub None []) (at next None visit.events.items)
  -- the hub heard the text once, or not at all if the visit says so, and no other
  pub heard : received visit.events.items ≡ heard_in visit.outcome text
  pub drew_all : IfAnswered visit.outcome (DrewAll [] visit.events.items visit.texts.items)
  pub few_texts : length visit.texts.items ≤ MAX_TEXTS
  pub few_events : length visit.events.items ≤ MAX_TEXTS + 3

-- Transports of a script: the outcomes that an event may have, and the results of `truth_of`.
use Rattle.std.specs.Prelude.{ℕ, ◌≡◌, ◌≢◌, Option, Some, None, Result, Ok, Err}
use Rattle.relay_hub.specs.Memory.{TakesMemory}
use Rattle.relay_hub.specs.State.{State as Hub, session_of}
use Rattle.relay_hub.specs.Step.{Step}
use Rattle.relay_hub.specs.Queries.{truth}
use Rattle.relay_hub.specs.declared.event.Answer.{Answer}
use Rattle.relay_hub.specs.declared.event.Answer.TheVariants.{Opened, Closed}
use Rattle.relay_hub.specs.declared.event.Event.{Event}
use Rattle.relay_hub.specs.declared.fault.HubFault.{HubFault}
use Rattle.relay_hub.specs.declared.fault.HubFault.TheVariants as hub
use Rattle.relay_tree.specs.Document.{Document}
use Rattle.relay_script.specs.declared.outcome.Outcome.{Outcome}
use Rattle.relay_script.specs.declared.outcome.Outcome.TheVariants.{Answered, NoMemory}

-- the state before an event, the event, its outcome, and the state after it
abbrev pub Transporting : Type 0 → Type 1
Transporting T = T → Event → Outcome → T → Type 0

-- a state, a session, and the result of `truth_of` for them
abbrev pub Telling : Type 0 → Type 1
Telling T = T → ℕ → Result (Option (ℕ × Document)) HubFault → Type 0

-- the session that a name has after an outcome, by its session before
abbrev pub session_after : Outcome → Option ℕ → Option ℕ
session_after (Answered (Opened o)) was = Some o.session
session_after (Answered Closed) was = None
session_after _ was = was

-- The hub itself as a transport.

-- the outcome of a hub call: its answer, or out of memory if it has none
abbrev pub outcome_of : Option Answer → Outcome
outcome_of (Some answer) = Answered answer
outcome_of None = NoMemory

-- an event is a step of the hub with its answer; or it is out of memory, and nothing changed, which
-- comes only of an event that takes memory
abbrev pub HubComes : Transporting Hub
HubComes old event (Answered answer) new = Step old event answer new
HubComes old event NoMemory new = (new ≡ old) × TakesMemory old event
HubComes old event _ new = ⊥

-- what a session should hold; or it is not open; or it is open, watches a view, and is out of
-- memory
abbrev pub HubTells : Telling Hub
HubTells state s (Ok shown) = truth state s ≡ Some shown
HubTells state s (Err hub.NoSession) = session_of state s ≡ None
HubTells state s (Err hub.NoMemory) = (session_of state s ≢ None) × (truth state s ≢ Some None)

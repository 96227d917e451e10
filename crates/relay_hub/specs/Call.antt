-- Calls as events: what each one answers, when it is a step, and runs of steps.
use Rattle.std.specs.Prelude.{◌≡◌, ℕ, ◌<◌, ◌≤◌, length, List, [], ◌∷◌, Option, Some, None}
use Rattle.std.specs.Prelude.{Result, Ok, Err, slice_get}
use Rattle.std.specs.Global.{Vec}
use Rattle.std.specs.declared.alloc.AllocError.{AllocError}
use Rattle.relay_outbox.specs.declared.outbox.TheConstants.{MAX_REPLIES}
use Rattle.relay_hub.specs.Log.{Log, entry}
use Rattle.relay_hub.specs.Session.{Session}
use Rattle.relay_hub.specs.State.{RoomSessions, State, session_in}
use Rattle.relay_room.specs.Edit.{edited}
use Rattle.relay_patch.specs.declared.op.Op.{Op}
use Rattle.relay_hub.specs.Step.{OnlyAt, Receives, WillServed, Draws, Step}
use Rattle.relay_hub.specs.declared.config.HubConfig.{HubConfig}
use Rattle.relay_hub.specs.declared.event.Answer.{Answer}
use Rattle.relay_hub.specs.declared.event.Answer.TheVariants as answer
use Rattle.relay_hub.specs.declared.event.Event.{Event}
use Rattle.relay_hub.specs.declared.event.Heard.{Heard}
use Rattle.relay_hub.specs.declared.event.Opening.{Opening}
use Rattle.relay_hub.specs.declared.fault.AdoptFault.{AdoptFault}
use Rattle.relay_hub.specs.declared.fault.AdoptFault.TheVariants as adopt
use Rattle.relay_hub.specs.declared.fault.ForgetFault.{ForgetFault}
use Rattle.relay_hub.specs.declared.fault.ForgetFault.TheVariants as forget
use Rattle.relay_hub.specs.declared.fault.HubFault.{HubFault}
use Rattle.relay_hub.specs.declared.fault.HubFault.TheVariants as hub
use Rattle.relay_hub.specs.declared.fault.NoSession.{NoSession}
use Rattle.relay_hub.specs.declared.fault.OpenFault.{OpenFault}
use Rattle.relay_hub.specs.declared.fault.OpenFault.TheVariants as opening_fault
use Rattle.relay_hub.specs.declared.fault.RunFault.{RunFault}

-- the answer of a call; none if it ran out of memory

abbrev pub not_opened : OpenFault → Option Answer
not_opened opening_fault.NoMemory = None
not_opened fault = Some (answer.NotOpened fault)

abbrev pub opening : Result Opening OpenFault → Option Answer
opening (Ok o) = Some (answer.Opened o)
opening (Err fault) = not_opened fault

abbrev pub not_served : HubFault → Option Answer
not_served hub.NoSession = Some answer.NoSession
not_served hub.NoMemory = None

abbrev pub receiving : Result Heard HubFault → Option Answer
receiving (Ok heard) = Some (answer.Heard heard)
receiving (Err fault) = not_served fault

abbrev pub drawing : Result (Option (List ℕ)) HubFault → Option Answer
drawing (Ok text) = Some (answer.Drawn text)
drawing (Err fault) = not_served fault

abbrev pub closing : Result (Unit {0}) NoSession → Answer
closing (Ok u) = answer.Closed
closing (Err e) = answer.NoSession

abbrev pub will_done : Option ℕ → Answer
will_done (Some short) = answer.WillDone short
will_done None = answer.NoWill

abbrev pub doing_will : Result (Option ℕ) AllocError → Option Answer
doing_will (Ok short) = Some (will_done short)
doing_will (Err e) = None

abbrev pub not_forgotten : ForgetFault → Option Answer
not_forgotten forget.NoMemory = None
not_forgotten fault = Some (answer.NotForgotten fault)

abbrev pub forgetting : Result ℕ ForgetFault → Option Answer
forgetting (Ok rev) = Some (answer.Forgotten rev)
forgetting (Err fault) = not_forgotten fault

abbrev pub not_adopted : AdoptFault → Option Answer
not_adopted adopt.NoMemory = None
not_adopted fault = Some (answer.NotAdopted fault)

abbrev pub adopting : Result (Unit {0}) AdoptFault → Option Answer
adopting (Ok u) = Some answer.Adopted
adopting (Err fault) = not_adopted fault

-- a call with that answer is a step, and a call without an answer changed nothing
abbrev pub StepIf : State → Event → Option Answer → State → Type 0
StepIf old event (Some answer) new = Step old event answer new
StepIf old event None new = new ≡ old

-- the log after a call
abbrev pub logged : Log → Event → Option Answer → Log
logged E event (Some answer) = entry event answer ∷ E
logged E event None = E

-- a run: one step after another, with one answer for each. It may stop before the last event
pub data Runs : State → List Event → List Answer → State → Type 0 where
  stops : (hub : State) (events : List Event) → Runs hub events [] hub
  steps : (old mid new : State) (event : Event) (events : List Event) (answer : Answer)
      (answers : List Answer)
      → Step old event answer mid → Runs mid events answers new
      → Runs old (event ∷ events) (answer ∷ answers) new

-- the answers to the events that a run carried out
abbrev pub done : Result (Vec Answer) RunFault → List Answer
done (Ok answers) = answers.items
done (Err fault) = fault.answers.items

-- the log after the events that have an answer
abbrev pub followed : Log → List Event → List Answer → Log
followed E (event ∷ events) (answer ∷ answers) = followed (entry event answer ∷ E) events answers
followed E events answers = E

-- The same within a room, for the functions that do the work.

abbrev pub ReceivesIf : HubConfig → ℕ → List ℕ → Option Answer → RoomSessions → RoomSessions
    → Type 0
ReceivesIf config s text (Some answer) old new =
    Receives config s (session_in old.sessions s) text answer old new
ReceivesIf config s text None old new = new ≡ old

abbrev pub DrawsIf : ℕ → Option Answer → RoomSessions → RoomSessions → Type 0
DrawsIf s (Some answer) old new = Draws s (session_in old.sessions s) answer old new
DrawsIf s None old new = new ≡ old

-- a will is done, or memory ran out and nothing changed
abbrev pub WillServedIf : HubConfig → List Op → Result ℕ AllocError → RoomSessions → RoomSessions
    → Type 0
WillServedIf config patch (Ok short) old new =
    WillServed config patch (edited old.room None patch) short old new
WillServedIf config patch (Err e) old new = new ≡ old

-- no session has that number or a higher one
abbrev pub IsAbove : ℕ → List Session → Type 0
IsAbove s sessions = (t : ℕ) → s ≤ t → session_in sessions t ≡ None

-- the same of the sessions of every room
abbrev pub IsFresh : ℕ → List (List ℕ × RoomSessions) → Type 0
IsFresh s rooms =
    (index : ℕ) (name : List ℕ) (g : RoomSessions) → slice_get rooms index ≡ Some (name, g)
    → IsAbove s g.sessions

-- session s becomes f of what it was, and no other session differs
abbrev pub ChangesBy : ℕ → (Session → Session) → List Session → List Session → Type 0
ChangesBy s f old new = (x : Session) → session_in old s ≡ Some x → OnlyAt s (Some (f x)) old new

-- the outbox of session s has space for a reply
abbrev pub HasSpace : List Session → ℕ → Type 0
HasSpace sessions s =
    (x : Session) → session_in sessions s ≡ Some x → length x.outbox.replies < MAX_REPLIES

abbrev pub IsFull : List Session → ℕ → Type 0
IsFull sessions s =
    (x : Session) → session_in sessions s ≡ Some x → length x.outbox.replies ≡ MAX_REPLIES

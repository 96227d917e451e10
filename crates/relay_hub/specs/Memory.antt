-- A call of a hub may report that memory ran out only if it would serve the event otherwise.
use Rattle.std.specs.Prelude.{◌≡◌, ⊤, ◌<◌, length, List, [], ◌∷◌, None, option_map, slice_get}
use Rattle.std.specs.Prelude.{IfSome, IsSomeAnd, IsTrue}
use Rattle.relay_hub.specs.Queries.{may_hear}
use Rattle.relay_hub.specs.Session.{waiting}
use Rattle.relay_hub.specs.State.{State, session_of}
use Rattle.relay_hub.specs.Step.{open_fault, forget_fault, adopt_fault}
use Rattle.relay_hub.specs.declared.event.Answer.{Answer}
use Rattle.relay_hub.specs.declared.event.Event.{Event}
use Rattle.relay_hub.specs.declared.event.Event.TheVariants.{Open, Receive, Draw, Close, DoWill}
use Rattle.relay_hub.specs.declared.event.Event.TheVariants.{Forget, Adopt, RaiseFloor}

-- an event for which memory may be refused; a close allocates nothing, nor does a floor that rises
abbrev pub TakesMemory : State → Event → Type 0
TakesMemory hub (Open name access) = open_fault hub name ≡ None
TakesMemory hub (Receive s text) = IsTrue (may_hear (session_of hub s))
TakesMemory hub (Draw s) = IsSomeAnd (option_map waiting (session_of hub s)) (λ n. 0 < n)
TakesMemory hub (Close s) = ⊥
TakesMemory hub DoWill = 0 < length hub.wills
TakesMemory hub (Forget name) = forget_fault hub name ≡ None
TakesMemory hub (Adopt name rev d) = adopt_fault hub name rev d ≡ None
TakesMemory hub (RaiseFloor rev) = ⊥

-- Memory was refused to a run that has these answers so far: for the answers themselves, before the
-- first event; or for the next event.
abbrev pub LacksMemory : List Event → List Answer → State → Type 0
LacksMemory events [] hub = ⊤
LacksMemory events (answer ∷ answers) hub =
    IfSome (slice_get events (length (answer ∷ answers))) (TakesMemory hub)

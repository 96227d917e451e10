-- The outcome of an event is one of the outcomes that can come of it.
use Rattle.std.specs.Prelude.{List, [], ◌∷◌}
use Rattle.relay_hub.specs.State.{State}
use Rattle.relay_hub.specs.Step.{DoesWill}
use Rattle.relay_hub.specs.declared.event.Answer.{Answer}
use Rattle.relay_hub.specs.declared.event.Answer.TheVariants.{Opened, NotOpened, Heard, Drawn}
use Rattle.relay_hub.specs.declared.event.Answer.TheVariants.{Closed, WillDone, NoWill, Forgotten}
use Rattle.relay_hub.specs.declared.event.Answer.TheVariants.{NotForgotten, Adopted}
use Rattle.relay_hub.specs.declared.event.Answer.TheVariants.{NotAdopted, FloorRaised, NoSession}
use Rattle.relay_hub.specs.declared.event.Event.{Event}
use Rattle.relay_hub.specs.declared.event.Event.TheVariants.{Open, Receive, Draw, Close, DoWill}
use Rattle.relay_hub.specs.declared.event.Event.TheVariants.{Forget, Adopt, RaiseFloor}
use Rattle.relay_hub.specs.declared.will.Will.{Will}
use Rattle.relay_script.specs.Transport.{HubComes}
use Rattle.relay_script.specs.declared.outcome.Outcome.{Outcome}
use Rattle.relay_script.specs.declared.outcome.Outcome.TheVariants.{Answered, NoMemory, Rejected}
use Rattle.relay_script.specs.declared.outcome.Outcome.TheVariants.{Stuck}
use Rattle.relay_loopback.specs.Loopback.{hub_of, CanCome, Comes}
use Rattle.relay_loopback.specs.declared.loopback.Loopback.{Loopback}

-- a will is done, or none is left
answers_will : (wills : List Will) (answer : Answer) (old new : State)
    → DoesWill wills old answer new → CanCome DoWill (Answered answer)
answers_will wills (WillDone short) old new does = tt
answers_will wills NoWill old new does = tt
answers_will wills NoSession old new does = tt
answers_will [] (Opened o) old new does = absurd does
answers_will (w ∷ wills) (Opened o) old new does = absurd does
answers_will [] (NotOpened fault) old new does = absurd does
answers_will (w ∷ wills) (NotOpened fault) old new does = absurd does
answers_will [] (Heard heard) old new does = absurd does
answers_will (w ∷ wills) (Heard heard) old new does = absurd does
answers_will [] (Drawn text) old new does = absurd does
answers_will (w ∷ wills) (Drawn text) old new does = absurd does
answers_will [] Closed old new does = absurd does
answers_will (w ∷ wills) Closed old new does = absurd does
answers_will [] (Forgotten rev) old new does = absurd does
answers_will (w ∷ wills) (Forgotten rev) old new does = absurd does
answers_will [] (NotForgotten fault) old new does = absurd does
answers_will (w ∷ wills) (NotForgotten fault) old new does = absurd does
answers_will [] Adopted old new does = absurd does
answers_will (w ∷ wills) Adopted old new does = absurd does
answers_will [] (NotAdopted fault) old new does = absurd does
answers_will (w ∷ wills) (NotAdopted fault) old new does = absurd does
answers_will [] FloorRaised old new does = absurd does
answers_will (w ∷ wills) FloorRaised old new does = absurd does

comes_of_will : (old new : State) (came : Outcome) → HubComes old DoWill came new
    → CanCome DoWill came
comes_of_will old new (Answered answer) does = answers_will old.wills answer old new does
comes_of_will old new NoMemory does = tt
comes_of_will old new (Rejected status) does = absurd does
comes_of_will old new Stuck does = absurd does

pub can_come : {N L S : Type 0} (old new : Loopback N L S) (event : Event) (came : Outcome)
    → Comes old event came new → CanCome event came
can_come old new (Open room access) came comes = comes
can_come old new (Receive s text) came comes = comes
can_come old new (Draw s) came comes = comes
can_come old new (Close s) came comes = comes
can_come old new DoWill came comes = comes_of_will (hub_of old) (hub_of new) came comes
can_come old new (Forget room) came comes = comes
can_come old new (Adopt room rev d) came comes = comes
can_come old new (RaiseFloor rev) came comes = comes

-- Runs: a run continues by one step.
use Rattle.std.proofs.Common.{◌≡◌, List, [], ◌∷◌, ◌++◌, length, Some, subst, slice_get}
use Rattle.relay_hub.specs.Call.{Runs, stops, steps}
use Rattle.relay_hub.specs.Memory.{TakesMemory, LacksMemory}
use Rattle.relay_hub.specs.State.{State}
use Rattle.relay_hub.specs.Step.{Step}
use Rattle.relay_hub.specs.declared.event.Answer.{Answer}
use Rattle.relay_hub.specs.declared.event.Event.{Event}

one : (old new : State) (events : List Event) (event : Event) (answer : Answer)
    → slice_get events 0 ≡ Some event → Step old event answer new
    → Runs old events (answer ∷ []) new
one old new [] event answer at step = absurd cc
one old new (e ∷ events) event answer at step =
    let same : event ≡ e = cc in
    steps old new new e events answer [] (subst (λ e.
    Step old e answer new) same step) (stops new events)

-- the next event is carried out after those that have an answer
pub run_more : (old mid new : State) (events : List Event) (answers : List Answer) (event : Event)
    (answer : Answer)
    → Runs old events answers mid → slice_get events (length answers) ≡ Some event
    → Step mid event answer new → Runs old events (answers ++ answer ∷ []) new
run_more old mid new events answers event answer (stops hub rest) at step =
    one hub new rest event answer at step
run_more old mid new events answers event answer (steps was
    then now e rest a more first others) at step =
    steps was then new e rest a (more ++ answer ∷ []) first (run_more
    then now new rest more event answer others at step)

-- memory was refused for the next event
pub lacks_memory : (events : List Event) (answers : List Answer) (event : Event) (hub : State)
    → slice_get events (length answers) ≡ Some event → TakesMemory hub event
    → LacksMemory events answers hub
lacks_memory events [] event hub at takes = tt
lacks_memory events (answer ∷ answers) event hub at takes = rw at takes

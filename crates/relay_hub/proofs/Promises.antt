-- Guarantees of the calls' steps to clients.
use Rattle.std.proofs.Common.{◌≡◌, ℕ, List, Result, Ok}
use Rattle.relay_hub.specs.Call.{StepIf, Runs, receiving, followed}
use Rattle.relay_hub.specs.Log.{Log}
use Rattle.relay_hub.specs.Stands.{StandsFor, EachHoldsPresent, EachIsAtNamed}
use Rattle.relay_hub.specs.State.{State}
use Rattle.relay_hub.specs.Step.{Step}
use Rattle.relay_hub.specs.Queries.{RefusesEdits}
use Rattle.relay_hub.specs.declared.config.HubConfig.{HubConfig}
use Rattle.relay_hub.specs.declared.event.Answer.{Answer}
use Rattle.relay_hub.specs.declared.event.Answer.TheVariants.{Heard as HeardAnswer}
use Rattle.relay_hub.specs.declared.event.Event.{Event}
use Rattle.relay_hub.specs.declared.event.Event.TheVariants.{Receive}
use Rattle.relay_hub.specs.declared.event.Heard.{Heard}
use Rattle.relay_hub.specs.declared.event.Heard.TheVariants.{Answered}
use Rattle.relay_hub.specs.declared.fault.HubFault.{HubFault}
use Rattle.relay_hub.proofs.Stands.{runs_stand}
use Rattle.relay_hub.proofs.Watchers.{exactly_held, each_held, unread_no_trace, unmade_no_trace}

-- a refused edit leaves no trace
pub refuses_edits : (old new : State) (s : ℕ) (text : List ℕ) (result : Result Heard HubFault)
    → StepIf old (Receive s text) (receiving result) new
    → (short : ℕ) → result ≡ Ok (Answered short) → RefusesEdits s text old new
refuses_edits old new s text result step short is =
    let answered : Step old (Receive s text) (HeardAnswer (Answered short)) new = rw is at step in
    record {
      unread = λ name g x r there found read.
          unread_no_trace old new s short text name g x there found answered r read;
      unmade = λ name g x id base patch fault there found read refused.
          unmade_no_trace old new s short text name g x there found answered id base patch fault
          read refused;
    }

-- after a run the hub stands for the log that the run extended
module _ {old new : State} {events : List Event} {answers : List Answer}
    (runs : Runs old events answers new) (b : HubConfig) (E : Log) (stands : StandsFor b E old)
  where
    pub stands_after : StandsFor b (followed E events answers) new
    stands_after = runs_stand b E stands runs

    pub exact_after : EachHoldsPresent b (followed E events answers) new
    exact_after s name g x w there is watches =
        exactly_held b (followed E events answers) new s name g x w stands_after there is watches

    pub each_after : EachIsAtNamed b (followed E events answers) new
    each_after s name g x w before after m there is watches split =
        each_held b (followed E events answers) new s name g x w stands_after there is watches
        before
        after m split

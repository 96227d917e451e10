-- Calls of a hub, one after another, keep it standing for a log.
use Rattle.std.proofs.Common.{Option, [], ◌∷◌}
use Rattle.relay_hub.specs.Call.{logged}
use Rattle.relay_hub.specs.Log.{Log, entry}
use Rattle.relay_hub.specs.Stands.{StandsFor}
use Rattle.relay_hub.specs.State.{State}
use Rattle.relay_hub.specs.declared.config.HubConfig.{HubConfig}
use Rattle.relay_hub.specs.declared.event.Answer.{Answer}
use Rattle.relay_hub.specs.declared.event.Event.{Event}
use Rattle.relay_keeping.specs.Stood.{Called, Stood}

pub none_called : {hub : State} → Called hub hub
none_called = record { logged = λ E. E; stands = λ b E stands. stands }

pub called_then : {old mid new : State} → Called old mid → Called mid new → Called old new
called_then first second = record {
  logged = λ E. second.logged (first.logged E);
  stands = λ b E stands. second.stands b (first.logged E) (first.stands b E stands);
}

pub by_call : {old new : State} (event : Event) (answer : Option Answer)
    → ((b : HubConfig) (E : Log) → StandsFor b E old → StandsFor b (logged E event answer) new)
    → Called old new
by_call event answer stands =
    record { logged = λ E. logged E event answer; stands = stands }

pub by_event : {old new : State} (event : Event) (answer : Answer)
    → ((b : HubConfig) (E : Log) → StandsFor b E old
    → StandsFor b (entry event answer ∷ E) new)
    → Called old new
by_event event answer stands =
    record { logged = λ E. entry event answer ∷ E; stands = stands }

pub stood_after : {b : HubConfig} {old new : State} → StandsFor b [] old → Called old new
    → Stood b new
stood_after {b = b} stands called =
    record { log = called.logged []; stands = called.stands b [] stands }

pub ruleset calls = (none_called, called_then)

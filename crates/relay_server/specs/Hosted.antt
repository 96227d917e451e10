-- The outcome of a server that began with a hub which stands for a log.
use Rattle.std.specs.Prelude.{⊤}
use Rattle.relay_hub.specs.Log.{Log}
use Rattle.relay_hub.specs.Stands.{StandsFor, EachHoldsPresent, EachIsAtNamed}
use Rattle.relay_hub.specs.State.{State}
use Rattle.relay_hub.specs.declared.config.HubConfig.{HubConfig}
use Rattle.relay_loopback.specs.declared.fault.ServeFault.{ServeFault}
use Rattle.relay_loopback.specs.declared.fault.ServeFault.TheVariants.{Ended, Lost}
use Rattle.relay_script.specs.declared.fault.ScriptFault.TheVariants.{NoMemory, Output}

-- The hub stands for a log, with this configuration. By the log each client that watches holds
-- exactly its view of the present document, once it has applied what was drawn for it and what
-- waits; and each of these messages leaves it with its view at the revision that the message names.
pub record HeadlineHolds (b : HubConfig) (hub : State) : Type 0 where
  pub log : Log
  pub stands : StandsFor b log hub
  pub exact : EachHoldsPresent b log hub
  pub each : EachIsAtNamed b log hub

-- a fault of a server that was hosted: of its output, of memory, or of what keeps its rooms
abbrev pub IsHosted : ServeFault → Type 0
IsHosted (Ended Output) = ⊤
IsHosted (Ended NoMemory) = ⊤
IsHosted Lost = ⊤
IsHosted _ = ⊥

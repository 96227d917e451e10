-- The fault of a run whose hub cannot be created.
use Rattle.relay_hub.specs.declared.fault.HubNewFault.{HubNewFault}
use Rattle.relay_hub.specs.declared.fault.HubNewFault.TheVariants as hub
use Rattle.relay_script.specs.declared.fault.ScriptFault.{ScriptFault}
use Rattle.relay_script.specs.declared.fault.ScriptFault.TheVariants.{BadLimit, NoMemory}

-- the fault of a run, by the fault of the hub's creation
abbrev pub not_made : HubNewFault → ScriptFault
not_made hub.BadLimit = BadLimit
not_made hub.NoMemory = NoMemory

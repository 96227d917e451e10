use Rattle.relay_hub.specs.Shed.{shed_session}
use Rattle.relay_hub.proofs.Lists.{MappedTo}
use Rattle.relay_hub.proofs.shed.shed_sessions.Given as goal

abbrev pub invariant-loop-index : goal.invariant-loop-index
invariant-loop-index l = MappedTo shed_session l.index l.initial.sessions.items l.sessions.items

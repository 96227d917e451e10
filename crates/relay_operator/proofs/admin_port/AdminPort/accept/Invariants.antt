use Rattle.relay_operator.specs.Port.{Admits}
use Rattle.relay_operator.proofs.admin_port.AdminPort.accept.Given as goal

abbrev pub invariant-loop : goal.invariant-loop
invariant-loop g l = Admits l.initial.self.connections.items l.self.connections.items

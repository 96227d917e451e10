use Rattle.relay_operator.specs.Connection.{SameButStream}
use Rattle.relay_operator.proofs.admin_connection.AdminConnection.drain.Given as goal

abbrev pub invariant-loop-read : goal.invariant-loop-read
invariant-loop-read g l = SameButStream l.initial.self l.self

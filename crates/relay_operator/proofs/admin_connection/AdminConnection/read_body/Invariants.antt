use Rattle.relay_operator.specs.Connection.{Receives}
use Rattle.relay_operator.proofs.admin_connection.AdminConnection.read_body.Given as goal

abbrev pub invariant-loop-read : goal.invariant-loop-read
invariant-loop-read g l = Receives g.S.Read.remaining l.initial.self l.self

use Rattle.relay_operator.specs.Connection.{Sends}
use Rattle.relay_operator.proofs.admin_connection.AdminConnection.send.Given as goal

abbrev pub invariant-loop-write : goal.invariant-loop-write
invariant-loop-write g l = Sends g.S.Write.contents l.initial.self l.self

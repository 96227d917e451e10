-- Each pass so far gave a response to one connection more.
use Rattle.relay_operator.specs.Answering.{AnswersSome}
use Rattle.relay_operator.proofs.admin_port.AdminPort.next_visit.Given as goal

abbrev pub invariant-loop : goal.invariant-loop
invariant-loop g l =
    AnswersSome g.L.Stream.Write.contents l.hub l.counter l.initial.self.connections.items
    l.self.connections.items

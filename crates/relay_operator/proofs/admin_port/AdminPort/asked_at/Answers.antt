-- The connection at the index says what it asks.
use Rattle.relay_operator.proofs.Giving.{asks_at, asks_past}
use Rattle.relay_operator.proofs.admin_port.AdminPort.asked_at.Goals as goal

pub returns-in-Some-clause-asks : goal.returns-in-Some-clause-asks
returns-in-Some-clause-asks g c =
    asks_at c.args.index c.deref.result.now c.args.self.now.connections.items
    c.in-Some.connection.now c.asked.result c.deref.ensures.value c.in-Some.ensures.lookup.3.0
    c.in-Some.ensures.lookup.1 c.asked.ensures.asked c.asked.ensures.said

pub returns-in-None-clause-is : goal.returns-in-None-clause-is
returns-in-None-clause-is g c =
    asks_past c.args.index c.deref.result.now c.args.self.now.connections.items
    c.deref.ensures.value c.in-None.ensures.lookup.3

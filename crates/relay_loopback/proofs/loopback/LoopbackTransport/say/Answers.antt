-- The outcome of a connection's send can come for any text.
use Rattle.relay_loopback.proofs.loopback.LoopbackTransport.say.Goals as goal

pub returns-in-Some : goal.returns-in-Some
returns-in-Some g c = c.say.ensures c.args.session c.args.text.now

-- The outcome of a connection's draw can come for the draw of any session.
use Rattle.relay_loopback.proofs.loopback.LoopbackTransport.draw_one.Goals as goal

pub returns-in-Some : goal.returns-in-Some
returns-in-Some g c = c.draw.ensures c.args.session

-- Whoever was found has no session.
use Rattle.std.proofs.Common.{IfSome}
use Rattle.relay_event_loop.specs.Advances.{HasNoSession, links_of}
use Rattle.relay_event_loop.proofs.server.Server.first_to_evict.Given as goal

abbrev pub invariant-loop-key : goal.invariant-loop-key
invariant-loop-key g l = IfSome l.first (λ key. HasNoSession (links_of l.self.connections) key)

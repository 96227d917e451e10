-- The hub advances, and no connection is added beyond the limit.
use Rattle.relay_event_loop.specs.Advances.{KeepsWithin}
use Rattle.relay_event_loop.proofs.server.Server.accept.Given as goal

abbrev pub invariant-loop : goal.invariant-loop
invariant-loop g l = KeepsWithin g.S.Read.remaining g.S.Write.contents l.initial.self l.self

-- The hub advances, and no connection is added.
use Rattle.relay_event_loop.specs.Advances.{KeepsFewer}
use Rattle.relay_event_loop.proofs.server.Server.read_each_with.Given as goal

abbrev pub invariant-loop : goal.invariant-loop
invariant-loop g l = KeepsFewer g.S.Read.remaining g.S.Write.contents l.initial.self l.self

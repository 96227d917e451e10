-- The hub advances, and no connection is added.
use Rattle.relay_event_loop.specs.Advances.{KeepsFewer}
use Rattle.relay_event_loop.proofs.server.Server.poll.Given as goal

abbrev pub invariant-loop-index : goal.invariant-loop-index
invariant-loop-index g l = KeepsFewer g.S.Read.remaining g.S.Write.contents l.initial.self l.self

-- The hub advances, and no connection is added.
use Rattle.relay_event_loop.specs.Advances.{KeepsFewer}
use Rattle.relay_event_loop.proofs.server.Server.end_slow.Given as goal

abbrev pub invariant-loop-key : goal.invariant-loop-key
invariant-loop-key g l = KeepsFewer g.S.Read.remaining g.S.Write.contents l.initial.self l.self

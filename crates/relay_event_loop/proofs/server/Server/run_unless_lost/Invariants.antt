-- The hub advances by as many rounds, and no connection is added beyond the limit.
use Rattle.relay_event_loop.specs.Advances.{MakesWithin}
use Rattle.relay_event_loop.proofs.server.Server.run_unless_lost.Given as goal

abbrev pub invariant-loop-before : goal.invariant-loop-before
invariant-loop-before g l =
    MakesWithin g.S.Read.remaining g.S.Write.contents l.before l.initial.self l.self

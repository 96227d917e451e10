-- One after the other.
use Rattle.relay_event_loop.proofs.Advancing.{advances_then, rounds_of}
use Rattle.relay_event_loop.proofs.server.Server.run.Goals as goal

pub returns-clause-rounds : goal.returns-clause-rounds
returns-clause-rounds g c =
    let ended =
    advances_then c.run_unless_lost-run.ensures.makes.0.1 c.end.ensures.rounds.advances in
    rounds_of (advances_then ended c.keep-is_kept.ensures.keeps.0.1)

-- One after the other.
use Rattle.relay_event_loop.proofs.Advancing.{advances_then, rounds_of}
use Rattle.relay_event_loop.proofs.server.Server.round.Goals as goal

pub returns-clause-rounds : goal.returns-clause-rounds
returns-clause-rounds g c =
    let begun = advances_then c.poll.ensures.0.1 c.relieve.ensures.0.1 in
    let read =
    advances_then (advances_then begun c.accept.ensures.0.1) c.read-spending.ensures.0.1 in
    let written = advances_then read c.tell.ensures.keeps.0.1 in
    rounds_of (advances_then written c.serve_owing.ensures.0.1)

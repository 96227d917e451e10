-- A binary message is answered by a close.
use Rattle.relay_link.proofs.BinaryAnswered.{closed_now}
use Rattle.relay_link.proofs.opened.next_text.Goals as goal

pub returns-in-Binary-clause-binary : goal.returns-in-Binary-clause-binary
returns-in-Binary-clause-binary g c =
    λ is.
    closed_now g.S.Write.contents _ c.read.new.socket c.close.new.socket
    c.in_ok-close-in-Binary.ensures.wrote

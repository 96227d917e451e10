-- A read keeps the terms, whether it gave a message or there was none.
use Rattle.relay_link.proofs.Terms.{read_message, read_nothing}
use Rattle.relay_link.proofs.socket.read.Goals as goal

pub returns-in-Ok-clause-terms : goal.returns-in-Ok-clause-terms
returns-in-Ok-clause-terms g c = read_message g.S.Read.remaining _ _ c.in-Ok.message c.in-Ok.ensures

pub returns-in-Err-Io-clause-terms : goal.returns-in-Err-Io-clause-terms
returns-in-Err-Io-clause-terms g c =
    read_nothing g.S.Read.remaining _ _ c.in-Err-Io.field-0 (rw c.in-Err-Io.field-0-is tt)
    (rw c.in-Err-Io.is at c.read.ensures)

use Rattle.std.proofs.Common.{subst, sym}
use Rattle.relay_store.specs.Kept.{changed}
use Rattle.relay_store.specs.Texts.{lent}
use Rattle.relay_keeping.specs.Clients.{AreClientsOf}
use Rattle.relay_keeping.proofs.clients.Clients.note.Goals as goal

pub returns-in-End : goal.returns-in-End
returns-in-End c = λ kept were.
    subst (λ change. AreClientsOf (changed kept (lent change)) c.end.new.self) (sym c.in-End.is)
    (c.end.ensures kept were)

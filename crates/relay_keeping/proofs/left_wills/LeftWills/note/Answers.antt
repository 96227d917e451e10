use Rattle.std.proofs.Common.{subst, sym}
use Rattle.relay_store.specs.Kept.{changed}
use Rattle.relay_store.specs.Texts.{lent}
use Rattle.relay_keeping.specs.LeftWills.{AreLeft}
use Rattle.relay_keeping.proofs.left_wills.LeftWills.note.Goals as goal

pub returns-in-DropWill : goal.returns-in-DropWill
returns-in-DropWill c = λ kept were.
    subst (λ change. AreLeft (changed kept (lent change)) c.end.new.self) (sym c.in-DropWill.is)
    (c.end.ensures.kept kept were)

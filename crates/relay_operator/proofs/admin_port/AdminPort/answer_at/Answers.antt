-- The connection at the index has its response, or is gone.
use Rattle.std.proofs.Common.{inl, inr, refl}
use Rattle.relay_operator.proofs.Giving.{gives}
use Rattle.relay_operator.proofs.admin_port.AdminPort.answer_at.Goals as goal

pub returns-then-eq : goal.returns-then-eq
returns-then-eq g c =
    rw c.in-Ok.is
    (gives g.L.Stream.Write.contents c.args.index c.in-Ok.reply c.in-Some.connection.now _ _ _ _
    c.in-Some.ensures.item.3.0 c.in-Some.ensures.value c.answer.ensures c.tell-found.ensures
    (inr c.drop_at-then-eq.ensures))

pub returns : goal.returns
returns g c =
    rw c.in-Ok.is
    (gives g.L.Stream.Write.contents c.args.index c.in-Ok.reply c.in-Some.connection.now _ _ _ _
    c.in-Some.ensures.item.3.0 c.in-Some.ensures.value c.answer.ensures c.tell-found.ensures
    (inl refl))

-- The request at the index is what the bytes received say, and comes to this.
use Rattle.std.proofs.Common.{subst, IfOk}
use Rattle.relay_operator.specs.Visiting.{PreparesEdit}
use Rattle.relay_operator.proofs.Giving.{prepares_at}
use Rattle.relay_operator.proofs.admin_port.AdminPort.prepare_at.Goals as goal

pub returns-in-Some-Read : goal.returns-in-Some-Read
returns-in-Some-Read g c =
    prepares_at c.args.hub.now c.args.index c.deref.result.now _ c.in-Some.connection.now
    c.in-Some-Read.field-0.now c.prepare_read.result c.deref.ensures.value
    c.in-Some.ensures.lookup.3.0 c.in-Some.ensures.lookup.1 c.in-Some-Read.ensures.asked
    c.in-Some-Read.ensures.said (rw c.in-Some-Read.field-0-is c.prepare_read.ensures)

pub returns-in-Some-Edit : goal.returns-in-Some-Edit
returns-in-Some-Edit g c =
    prepares_at c.args.hub.now c.args.index c.deref.result.now _ c.in-Some.connection.now
    c.in-Some-Edit.field-0.now c.prepare_edit.result c.deref.ensures.value
    c.in-Some.ensures.lookup.3.0 c.in-Some.ensures.lookup.1 c.in-Some-Edit.ensures.asked
    c.in-Some-Edit.ensures.said
    (rw c.in-Some-Edit.field-0-is
    (subst (λ body. IfOk c.prepare_edit.result
    (PreparesEdit c.args.hub.now c.in-Some-Edit.edit body)) c.body.ensures c.prepare_edit.ensures))

-- The client has the present revision.
use Rattle.std.proofs.Common.{sym, ◌∙◌}
use Rattle.relay_operator.proofs.Visits.{prepares_known}
use Rattle.relay_operator.proofs.room_request.prepare_read.Goals as goal

pub returns-then-branch : goal.returns-then-branch
returns-then-branch c =
    prepares_known c.args.hub.now c.args.request.now c.as_str.result.now c.room_named.result
    c.in-Some.room c.tag_of-tag.result c.respond-then-branch.result c.as_str.ensures.value
    c.room_named.ensures c.in-Some.is c.tag_of-tag.ensures
    (sym c.in_ok-names.ensures ∙ c.if-branch.true) c.respond-then-branch.ensures

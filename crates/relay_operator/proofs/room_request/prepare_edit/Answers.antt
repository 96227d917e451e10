-- The body is no JSON.
use Rattle.std.proofs.Common.{sym, ap, ◌∙◌}
use Rattle.relay_operator.specs.Visiting.{revision_named, tag_of}
use Rattle.relay_operator.proofs.Visits.{prepares_not_json}
use Rattle.relay_operator.proofs.room_request.prepare_edit.Goals as goal

pub returns-in-None : goal.returns-in-None
returns-in-None c =
    let hub = c.args.hub.now in
    prepares_not_json hub c.args.request.now c.args.body.now c.in_ok-text.field-0
    c.tag_of-tag.result c.not_json.result c.respond-in-None.result
    (c.tag_of-tag.ensures ∙ ap (tag_of hub) (c.revision_named.ensures
    ∙ ap (λ name. revision_named name hub) c.as_str.ensures.value))
    (sym c.in_ok-holds_at.ensures ∙ c.if-not-branch.false) c.in-None.is c.in_ok-text.ensures.json
    c.not_json.ensures c.respond-in-None.ensures

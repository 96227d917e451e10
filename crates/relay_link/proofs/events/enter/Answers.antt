-- An opening that has an answer is the one event, and opens a session unless it was refused.
use Rattle.std.proofs.Common.{refl, ◌∙◌}
use Rattle.relay_link.proofs.Visiting.{opens_answered, opens_unanswered}
use Rattle.relay_link.proofs.events.enter.Goals as goal

pub returns-then-not-is_answered-clause-opens : goal.returns-then-not-is_answered-clause-opens
returns-then-not-is_answered-clause-opens c =
    opens_unanswered _ _ _ _ c.as_str.result.now c.args.access c.open-opened.result
    c.if-not-is_answered.ensures c.open-opened.ensures.step refl

pub returns-clause-opens : goal.returns-clause-opens
returns-clause-opens c =
    opens_answered _ _ _ _ c.as_str.result.now c.args.access c.open-opened.result
    c.if-not-is_answered.ensures c.open-opened.ensures.step (rw c.as_str.ensures c.note.ensures)
    (c.as_str.ensures ∙ c.of-room.ensures, refl)

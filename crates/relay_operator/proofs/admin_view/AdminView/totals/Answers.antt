-- The room that the hub shows at an index is the next that is seen, or there is none.
use Rattle.std.proofs.Common.{arith, ap, sym, ◌∙◌}
use Rattle.relay_hub.specs.Summary.{shown_by}
use Rattle.relay_operator.specs.Numbers.{rooms_seen, with_room}
use Rattle.relay_operator.proofs.Seen.{all_seen, few_seen, room_seen, totals_all, totals_next}
use Rattle.relay_operator.proofs.admin_view.AdminView.totals.Goals as goal

pub returns-in_default : goal.returns-in_default
returns-in_default c =
    let hub = c.args.self.now.hub.now in
    c.loop-index.invariant ∙ totals_all (rooms_seen hub) c.loop-index.index
    (all_seen hub c.loop-index.index c.room_at.result c.loop-index-test.true c.room_at.ensures
    c.in_default.is)

pub loop-index-preserved : goal.loop-index-preserved
loop-index-preserved c =
    let hub = c.args.self.now.hub.now in
    let room = shown_by c.in-Some.room in
    c.with-totals.ensures ∙ ap (with_room room) c.loop-index.invariant
    ∙ sym (totals_next (rooms_seen hub) c.loop-index.index room
    (room_seen hub c.loop-index.index c.room_at.result c.in-Some.room c.loop-index-test.true
    c.room_at.ensures c.in-Some.is))

pub returns : goal.returns
returns c =
    let hub = c.args.self.now.hub.now in
    c.loop-index.invariant ∙ totals_all (rooms_seen hub) c.loop-index.index
    (omega (arith, few_seen hub, c.loop-index-test.false))

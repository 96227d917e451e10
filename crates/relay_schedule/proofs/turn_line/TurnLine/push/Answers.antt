-- A key that does not stand in the line has room there.
use Rattle.std.proofs.Common.{◌<◌, length, arith, rules, subst}
use Rattle.relay_schedule.specs.TurnLine.{IsLine}
use Rattle.relay_schedule.proofs.Flags.{has_room, kept_is_line}
use Rattle.relay_schedule.proofs.Overtaking.{never_overtaken}
use Rattle.relay_schedule.proofs.turn_line.TurnLine.push.Goals as goal

pub push_back_reserved-requires : goal.push_back_reserved-requires
push_back_reserved-requires c =
    let kept = c.self.invariant in
    let within : c.args.key < length c.self.inside.standing.items =
    omega (arith, c.if-key-len.false, c.len.ensures) in
    let room = has_room c.self.inside.standing.items c.args.key c.index.result.now c.index.ensures
    c.if-index.false within in
    let fits = kept.fits in
    let waiting = kept.waiting_room in
    let served = kept.served_room in
    omega (arith, room, fits, waiting, served)

pub returns-clause-behind_all : goal.returns-clause-behind_all
returns-clause-behind_all c = search rules

pub returns-clause-not_overtaken : goal.returns-clause-not_overtaken
returns-clause-not_overtaken c other acts within none there =
    rw (returns-clause-behind_all c)
    (never_overtaken c.args.key other acts c.args.self.now
    (subst IsLine c.self.view_is (kept_is_line c.self.inside c.self.invariant)) within none there)

-- A key that does not stand in the line has room there.
use Rattle.std.proofs.Common.{◌<◌, length, arith}
use Rattle.relay_schedule.proofs.Flags.{has_room}
use Rattle.relay_schedule.proofs.turn_line.TurnLine.skip.Goals as goal

pub push_back_reserved-requires : goal.push_back_reserved-requires
push_back_reserved-requires c =
    let kept = c.self.invariant in
    let within : c.args.key < length c.self.inside.standing.items =
    omega (arith, c.if-key-len.false, c.len.ensures) in
    let room = has_room c.self.inside.standing.items c.args.key c.index.result.now c.index.ensures
    c.if-index.false within in
    let fits = kept.fits in
    let waiting = kept.waiting_room in
    let served = kept.served_room in
    omega (arith, room, fits, waiting, served)

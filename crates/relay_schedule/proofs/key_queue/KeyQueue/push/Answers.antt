-- A key that does not stand in the queue has room there.
use Rattle.std.proofs.Common.{◌<◌, length, arith}
use Rattle.relay_schedule.proofs.Flags.{has_room}
use Rattle.relay_schedule.proofs.key_queue.KeyQueue.push.Goals as goal

pub push_back_reserved-requires : goal.push_back_reserved-requires
push_back_reserved-requires c =
    let kept = c.self.invariant in
    let within : c.args.key < length c.self.inside.queued.items =
    omega (arith, c.if-key-len.false, c.len.ensures) in
    let room = has_room c.self.inside.queued.items c.args.key c.index.result.now c.index.ensures
    c.if-index.false within in
    let fits = kept.fits in
    let held = kept.room in
    omega (arith, room, fits, held)

-- Flags that are added are not set.
use Rattle.std.proofs.Common.{◌≤◌, length, deque_capacity, arith}
use Rattle.std.specs.Result.{is_ok}
use Rattle.relay_schedule.proofs.Flags.{flagged_resized, fits_resized, room_resized}
use Rattle.relay_schedule.proofs.key_queue.KeyQueue.admit.Goals as goal

pub invariant_of-self-2 : goal.invariant_of-self-2
invariant_of-self-2 c =
    let kept = c.self.invariant in
    let flags = c.self.inside.queued.items in
    let done = is_ok c.resize.result in
    let count = c.saturating_add-count.result in
    let held = c.self.inside.queued.ok.0 in
    let within : count ≤ deque_capacity c.reserve.new.self =
    omega (
      arith,
      c.in_ok-reserve.ensures.ok,
      c.saturating_sub.ensures,
      c.len-2.ensures,
    ) in
    let few : length flags ≤ count = omega (arith, c.if-count-len.false, c.len.ensures) in
    record {
      flagged = rw (c.resize.ensures.items, c.reserve.ensures.items)
          (flagged_resized done count _ flags c.self.inside.keys.items few kept.flagged);
      fits = rw (c.resize.ensures.items, c.reserve.ensures.len)
          (fits_resized done count _ _ flags few kept.fits);
      room = rw c.resize.ensures.items
          (room_resized done count _ _ flags few (omega (arith, held, few)) within);
    }

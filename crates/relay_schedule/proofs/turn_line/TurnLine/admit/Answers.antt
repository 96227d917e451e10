-- Flags that are added are not set.
use Rattle.std.proofs.Common.{◌≤◌, ◌++◌, length, deque_capacity, arith}
use Rattle.std.specs.Result.{is_ok}
use Rattle.relay_schedule.proofs.Flags.{flagged_resized, fits_resized, room_resized}
use Rattle.relay_schedule.proofs.turn_line.TurnLine.admit.Goals as goal

pub invariant_of-self-2 : goal.invariant_of-self-2
invariant_of-self-2 c =
    let kept = c.self.invariant in
    let flags = c.self.inside.standing.items in
    let done = is_ok c.resize.result in
    let count = c.saturating_add-count.result in
    let held = c.self.inside.standing.ok.0 in
    let waiting : count ≤ deque_capacity c.reserve.new.self =
    omega (arith, c.in_ok-reserve.ensures.ok, c.saturating_sub.ensures, c.len-2.ensures) in
    let served : count ≤ deque_capacity c.reserve-2.new.self =
    omega (arith, c.in_ok-reserve-2.ensures.ok, c.saturating_sub-2.ensures, c.len-3.ensures) in
    let few : length flags ≤ count = omega (arith, c.if-count-len.false, c.len.ensures) in
    record {
      flagged = rw (c.resize.ensures.items, c.reserve.ensures.items, c.reserve-2.ensures.items)
          (flagged_resized done count _ flags
          (c.self.inside.waiting.items ++ c.self.inside.served.items) few kept.flagged);
      fits = rw (c.resize.ensures.items, c.reserve.ensures.len, c.reserve-2.ensures.len)
          (fits_resized done count _ _ flags few kept.fits);
      waiting_room = rw c.resize.ensures.items
          (room_resized done count _ _ flags few (omega (arith, held, few)) waiting);
      served_room = rw c.resize.ensures.items
          (room_resized done count _ _ flags few (omega (arith, held, few)) served);
    }

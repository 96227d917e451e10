-- The key that leaves stands in the line no more.
use Rattle.std.proofs.Common.{◌<◌, ◌∷◌, ◌++◌, false, length, length-set, arith, subst}
use Rattle.relay_schedule.specs.Representation.{Flagged}
use Rattle.relay_schedule.proofs.Flags.{flagged_rest, fewer_flags}
use Rattle.relay_schedule.proofs.turn_line.TurnLine.pop.Goals as goal

pub invariant_of-self-then-key-len : goal.invariant_of-self-then-key-len
invariant_of-self-then-key-len c =
    let kept = c.self.invariant in
    let flags = c.self.inside.standing.items in
    let served = c.self.inside.served.items in
    let key = c.in_ok-key.key in
    let rest = c.pop_front.new.self.items ++ served in
    let within : key < length flags = omega (arith, c.if-key-len.true, c.len.ensures) in
    let all : Flagged flags (key ∷ rest) =
    subst (λ keys. Flagged flags (keys ++ served)) c.in_ok-key.ensures.items kept.flagged in
    let fits = kept.fits in
    let waiting_room = kept.waiting_room in
    let served_room = kept.served_room in
    let same = length-set flags key false in
    record {
      flagged = flagged_rest flags key rest within all;
      fits = omega (arith, fewer_flags flags key rest within all, fits, c.in_ok-key.ensures.len);
      waiting_room = omega (arith, same, waiting_room, c.pop_front.ensures.capacity);
      served_room = omega (arith, same, served_room);
    }

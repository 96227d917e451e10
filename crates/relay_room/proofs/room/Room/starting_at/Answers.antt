use Rattle.std.proofs.Common.{arith}
use Rattle.std.proofs.lemmas.Bool.Decides.{nat_tests}
use Rattle.std.proofs.lemmas.Grind.{common_steps}
use Rattle.relay_room.proofs.Rooms.{begun_is_room}
use Rattle.relay_room.proofs.room.Room.starting_at.Goals as goal

pub invariant_of-result : goal.invariant_of-result
invariant_of-result c =
    let room = begun_is_room c.args.document c.args.rev c.args.limit
    (grind (arith, nat_tests, common_steps)) (grind (arith, nat_tests, common_steps))
    (grind (arith, common_steps)) (grind (arith, common_steps)) c.if-rev-gt-LAST_REVISION.false in
    rw c.in_ok-history.ensures.ok
    (record { is = room; weight = omega (arith, c.weight-weight.ensures, c.if-weight.false) })

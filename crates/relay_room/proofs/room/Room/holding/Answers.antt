use Rattle.relay_room.proofs.Rooms.{begun_within}
use Rattle.relay_room.proofs.room.Room.holding.Goals as goal

pub invariant_of-result : goal.invariant_of-result
invariant_of-result c =
    let given = c.requires in
    rw c.in-Ok.ensures.ok
    (record {
      is = begun_within c.args.document c.args.rev c.args.limit given.within given.least given.most
          given.last;
      weight = given.weight;
    })

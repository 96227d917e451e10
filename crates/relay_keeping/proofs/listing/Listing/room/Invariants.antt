-- No room so far has the name.
use Rattle.std.proofs.Common.{◌≡◌, drop}
use Rattle.relay_keeping.specs.Listing.{named_in}
use Rattle.relay_keeping.proofs.listing.Listing.room.Given as goal

abbrev pub invariant-loop-room : goal.invariant-loop-room
invariant-loop-room l =
    named_in l.name (drop l.room-index l.room-items)
    ≡ named_in l.name l.self.rooms.items

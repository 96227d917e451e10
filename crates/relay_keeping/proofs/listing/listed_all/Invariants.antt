-- The rooms so far are those of the first clients.
use Rattle.std.proofs.Common.{◌≡◌, map, take}
use Rattle.relay_keeping.specs.Listing.{held, shown}
use Rattle.relay_keeping.proofs.listing.listed_all.Given as goal

abbrev pub invariant-loop-index : goal.invariant-loop-index
invariant-loop-index l = map shown l.rooms.items ≡ map held (take l.index l.clients.entries)

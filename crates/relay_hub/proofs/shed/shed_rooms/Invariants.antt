use Rattle.std.proofs.Common.{◌≡◌, length}
use Rattle.relay_hub.specs.Representation.{rooms_of}
use Rattle.relay_hub.specs.Shed.{shed_named}
use Rattle.relay_hub.proofs.Lists.{MappedTo}
use Rattle.relay_hub.proofs.shed.shed_rooms.Given as goal

abbrev pub invariant-loop-index : goal.invariant-loop-index
invariant-loop-index l =
    MappedTo (shed_named l.budget) l.index (rooms_of l.initial.rooms.entries)
    (rooms_of l.rooms.entries) × (length l.rooms.entries ≡ length l.initial.rooms.entries)

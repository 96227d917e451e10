use Rattle.std.proofs.Common.{◌≡◌, take}
use Rattle.relay_tree.specs.Document.{saturated}
use Rattle.relay_hub.specs.Queries.{rooms_weight}
use Rattle.relay_hub.specs.Representation.{rooms_of}
use Rattle.relay_hub.proofs.hub.queries.weight_of_rooms.Given as goal

abbrev pub invariant-loop-index : goal.invariant-loop-index
invariant-loop-index l =
    l.weight ≡ saturated (rooms_weight (take l.index (rooms_of l.rooms.entries)))

-- The wills in the first rooms are found.
use Rattle.std.proofs.Common.{take}
use Rattle.std.specs.List.{flat_map}
use Rattle.relay_keeping.specs.Wills.{Finds, wills_in}
use Rattle.relay_keeping.proofs.found_wills.FoundWills.find_open.Given as goal

abbrev pub invariant-loop-index : goal.invariant-loop-index
invariant-loop-index l =
    Finds l.noted.entries (flat_map wills_in (take l.index l.hub.rooms)) l.initial.self l.self

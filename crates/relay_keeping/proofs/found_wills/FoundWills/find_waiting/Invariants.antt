-- The wills that have waited the longest are found.
use Rattle.std.proofs.Common.{map, take}
use Rattle.relay_hub.specs.Stands.{named_will}
use Rattle.relay_keeping.specs.Wills.{Finds}
use Rattle.relay_keeping.proofs.found_wills.FoundWills.find_waiting.Given as goal

abbrev pub invariant-loop-will : goal.invariant-loop-will
invariant-loop-will l =
    Finds l.noted.entries (map (named_will l.hub.rooms) (take l.will-index l.hub.wills))
    l.initial.self l.self

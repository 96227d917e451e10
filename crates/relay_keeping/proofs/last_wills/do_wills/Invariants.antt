-- The wills that were left first are done.
use Rattle.std.proofs.Common.{map, take}
use Rattle.relay_keeping.specs.LeftWills.{AreDone, kept_will}
use Rattle.relay_keeping.proofs.last_wills.do_wills.Given as goal

abbrev pub invariant-loop-index : goal.invariant-loop-index
invariant-loop-index l =
    AreDone (map kept_will (take l.index l.left.wills.entries)) l.initial.hub l.hub

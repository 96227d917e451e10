-- The wills that were left first are noted.
use Rattle.std.proofs.Common.{map, take}
use Rattle.relay_keeping.specs.LeftWills.{AreNotedAsEarlier, kept_will}
use Rattle.relay_keeping.proofs.kept_wills.KeptWills.of_earlier_run.Given as goal

abbrev pub invariant-loop-index : goal.invariant-loop-index
invariant-loop-index l =
    AreNotedAsEarlier (map kept_will (take l.index l.left.wills.entries)) l.noted.entries

use Rattle.std.proofs.Common.{take}
use Rattle.relay_translate.specs.SlotIndex.{AreWithin}
use Rattle.relay_translate.proofs.watch_index.depth_of.Given as goal

abbrev pub invariant-loop-slot : goal.invariant-loop-slot
invariant-loop-slot l = AreWithin l.deepest (take l.slot-index l.slot-items)

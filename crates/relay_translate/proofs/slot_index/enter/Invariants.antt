use Rattle.std.proofs.Common.{take}
use Rattle.relay_translate.specs.SlotIndex.{EachIsWatched, Joins}
use Rattle.relay_translate.proofs.slot_index.enter.Given as goal

abbrev pub invariant-loop-slot : goal.invariant-loop-slot
invariant-loop-slot l =
    record {
      joined : Joins l.fn.index l.index l.session (take l.slot-index l.slots);
      watched : EachIsWatched l.index;
    }

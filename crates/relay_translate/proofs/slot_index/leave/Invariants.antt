use Rattle.std.proofs.Common.{take}
use Rattle.relay_translate.specs.SlotIndex.{EachIsWatched, Leaves}
use Rattle.relay_translate.proofs.slot_index.leave.Given as goal

abbrev pub invariant-loop-slot : goal.invariant-loop-slot
invariant-loop-slot l =
    record {
      left : Leaves l.fn.index l.index l.session (take l.slot-index l.slots) l.kept;
      watched : EachIsWatched l.index;
    }

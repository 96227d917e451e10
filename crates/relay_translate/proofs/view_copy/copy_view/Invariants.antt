use Rattle.std.proofs.Common.{◌≡◌, take}
use Rattle.relay_translate.proofs.view_copy.copy_view.Given as goal

abbrev pub invariant-loop-slot : goal.invariant-loop-slot
invariant-loop-slot l = l.slots.items ≡ take l.slot-index l.slot-items

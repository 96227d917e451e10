use Rattle.std.proofs.Common.{◌≡◌, take, map}
use Rattle.relay_view.specs.View.{slot}
use Rattle.relay_view.proofs.view.View.of.Given as goal

abbrev pub invariant-loop-slot : goal.invariant-loop-slot
invariant-loop-slot l =
    l.slots.items ≡ map (λ s. slot s l.fn.document) (take l.slot-index l.slot-items)

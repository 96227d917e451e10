use Rattle.std.proofs.Common.{◌≡◌, ◌+◌, length}
use Rattle.relay_audience.specs.ViewOrder.{view_cmp}
use Rattle.relay_audience.proofs.view_order.compare_slots.Given as goal

abbrev pub invariant-loop-slot : goal.invariant-loop-slot
invariant-loop-slot l = record {
  len : length l.slot-iterator.a.rest.now + length l.others
      ≡ length l.slot-iterator.b.rest.now + length l.slots;
  same : view_cmp l.slot-iterator.a.rest.now l.slot-iterator.b.rest.now
      ≡ view_cmp l.slots l.others;
}

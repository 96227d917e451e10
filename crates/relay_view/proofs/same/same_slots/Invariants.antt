use Rattle.std.proofs.Common.{◌≡◌, ◌↔◌, length}
use Rattle.relay_view.proofs.same.same_slots.Given as goal

abbrev pub invariant-loop-slot : goal.invariant-loop-slot
invariant-loop-slot l = record {
  len : length l.slot-iterator.a.rest.now ≡ length l.slot-iterator.b.rest.now;
  same : (l.slot-iterator.a.rest.now ≡ l.slot-iterator.b.rest.now) ↔ (l.slots ≡ l.others);
}

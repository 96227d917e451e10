use Rattle.std.proofs.Common.{◌≡◌, ◌+◌, ◌≤◌, length, vec_len, vec_capacity}
use Rattle.relay_tree.specs.Document.{items_of}
use Rattle.relay_tree.specs.Each.{each_from}
use Rattle.relay_tree.proofs.Each.{behind}
use Rattle.relay_view.specs.Form.{slot_at}
use Rattle.relay_view.proofs.read.slots_of.Given as goal

abbrev pub invariant-loop-item : goal.invariant-loop-item
invariant-loop-item l = record {
  paths : behind l.slots.items
      (each_from slot_at (vec_len l.slots) (items_of l.item-iterator.rest.now))
      ≡ each_from slot_at 0 (items_of l.items.items);
  room : vec_len l.slots + length l.item-iterator.rest.now ≤ vec_capacity l.slots;
}

use Rattle.std.proofs.Common.{◌≡◌, ◌+◌, ◌≤◌, length, vec_len, vec_capacity}
use Rattle.std.specs.Vec.Iter.{into_iter_items, into_iter_len}
use Rattle.relay_tree.specs.Document.{items_of}
use Rattle.relay_tree.specs.Each.{each_from}
use Rattle.relay_tree.proofs.Each.{behind}
use Rattle.relay_patch.specs.Form.{op_at}
use Rattle.relay_patch.proofs.form.reading.ops_of.Given as goal

abbrev pub invariant-loop-item : goal.invariant-loop-item
invariant-loop-item l = record {
  read : behind l.ops.items
      (each_from (op_at l.tokens) (vec_len l.ops) (items_of (into_iter_items l.item-iterator)))
      ≡ each_from (op_at l.tokens) 0 (items_of l.fn.items.items);
  len : into_iter_len l.item-iterator ≡ length (into_iter_items l.item-iterator);
  room : vec_len l.ops + length (into_iter_items l.item-iterator) ≤ vec_capacity l.ops;
}

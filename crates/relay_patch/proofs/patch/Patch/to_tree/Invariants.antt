use Rattle.std.proofs.Common.{◌≡◌, take, map}
use Rattle.relay_patch.proofs.Forms.{op_document}
use Rattle.relay_patch.proofs.patch.Patch.to_tree.Given as goal

abbrev pub invariant-loop-op : goal.invariant-loop-op
invariant-loop-op l = l.items.items ≡ map op_document (take l.op-index l.op-items)

use Rattle.std.proofs.Common.{◌≡◌, take, map}
use Rattle.relay_tree.proofs.Writing.{WritesEach}
use Rattle.relay_patch.proofs.Forms.{op_document}
use Rattle.relay_patch.proofs.patch.Patch.write.Given as goal

abbrev pub invariant-loop-op : goal.invariant-loop-op
invariant-loop-op l = record {
  before : l.out.before ≡ l.initial.out.before;
  each : WritesEach
      (map op_document (take l.op-index l.op-items)) l.initial.out.tokens l.out.tokens;
}

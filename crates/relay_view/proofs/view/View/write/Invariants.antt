use Rattle.std.proofs.Common.{◌≡◌, take, map}
use Rattle.relay_tree.proofs.Writing.{WritesEach}
use Rattle.relay_view.specs.View.{slot}
use Rattle.relay_view.proofs.view.View.write.Given as goal

abbrev pub invariant-loop-slot : goal.invariant-loop-slot
invariant-loop-slot l = record {
  before : l.out.before ≡ l.initial.out.before;
  each : WritesEach
      (map (λ s. slot s l.fn.document) (take l.slot-index l.slot-items)) l.initial.out.tokens
      l.out.tokens;
}

use Rattle.std.proofs.Common.{◌≡◌, ◌<◌, Ok, Some, length, take, drop, IsSome}
use Rattle.relay_tree.specs.Budget.{paid}
use Rattle.relay_patch.specs.After.{after, after_from}
use Rattle.relay_patch.specs.Change.{all_changes}
use Rattle.relay_patch.specs.Measure.{Known}
use Rattle.relay_apply.specs.Undo.{taken_back}
use Rattle.relay_patch.specs.Weight.{changes_weight}
use Rattle.relay_apply.proofs.applying.run_keeping.Given as goal

abbrev pub invariant-loop-at : goal.invariant-loop-at
invariant-loop-at l =
    record {
      onward : after_from l.at (changes_weight l.done.changes.items) l.bounds l.tree
          (drop l.at l.ops) ≡ after_from 0 0 l.bounds l.initial.tree l.ops;
      reached : after l.initial.tree (take l.at l.ops) l.bounds ≡ Ok l.tree;
      changes : l.done.changes.items ≡ all_changes l.initial.tree (take l.at l.ops);
      paid : paid (changes_weight l.done.changes.items) l.bounds.changes ≡ Some l.done.left;
      known : Known l.bounds l.tree l.done.weight;
      weighed : IsSome l.initial.done.weight → IsSome l.done.weight;
      back : l.at < length l.ops
          → taken_back l.tree l.kept.items ≡ taken_back l.initial.tree l.initial.kept.items;
    }

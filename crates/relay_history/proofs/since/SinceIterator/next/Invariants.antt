use Rattle.std.proofs.Common.{◌≡◌, ◌≤◌, length}
use Rattle.relay_history.specs.Representation.{left_of}
use Rattle.relay_history.proofs.since.SinceIterator.next.Given as goal

-- what is left stays the same
abbrev pub invariant-loop-self : goal.invariant-loop-self
invariant-loop-self l = (l.self-inside.left ≤ length l.self-inside.revisions.now.items)
    × (left_of l.self-inside ≡ left_of l.initial.self-inside)

abbrev pub decreases-loop-self : goal.decreases-loop-self
decreases-loop-self l = l.self-inside.left

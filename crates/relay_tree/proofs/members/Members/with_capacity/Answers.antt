use Rattle.std.specs.List.Sorted.{IsStrictlySortedBy}
use Rattle.relay_tree.proofs.members.Members.with_capacity.Goals as goal

pub invariant_of-result : goal.invariant_of-result
unfolding IsStrictlySortedBy
invariant_of-result c = rw c.in_ok-with_capacity.ensures.items tt

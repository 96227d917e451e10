use Rattle.std.proofs.Common.{◌≡◌, ◌+◌, List, ◌++◌}
use Rattle.relay_tree.specs.Document.{Document, weight, items_of, items_weight, members_weight}
use Rattle.relay_tree.specs.Seen.{members_of}
use Rattle.relay_tree.proofs.Named.{Entry}
use Rattle.relay_tree.proofs.Writing.{WritesEach, WritesMembers}
use Rattle.relay_tree.proofs.write.+write.Given as goal

abbrev pub decreases-write_tree : goal.decreases-write_tree
decreases-write_tree l = weight l.tree.now

abbrev pub decreases-write_list : goal.decreases-write_list
decreases-write_list l = 1 + items_weight (items_of l.items.now.items)

abbrev pub decreases-write_object : goal.decreases-write_object
decreases-write_object l = 1 + members_weight (members_of l.members.now.entries)

abbrev pub invariant-write_list-loop-item : goal.invariant-write_list-loop-item
invariant-write_list-loop-item l = record {
  before : l.out.before ≡ l.initial.out.before;
  done : List Document;
  all : l.items.items ≡ done ++ l.item-iterator.rest.now;
  each : WritesEach done l.initial.out.tokens l.out.tokens;
}

abbrev pub invariant-write_object-loop-name : goal.invariant-write_object-loop-name
invariant-write_object-loop-name l = record {
  before : l.out.before ≡ l.initial.out.before;
  done : List Entry;
  all : l.members.entries ≡ done ++ l.name-iterator.rest.now;
  each : WritesMembers done l.initial.out.tokens l.out.tokens;
}

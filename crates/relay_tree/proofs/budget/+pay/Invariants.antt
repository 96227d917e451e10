use Rattle.std.proofs.Common.{◌≡◌, ◌+◌, ◌≤◌}
use Rattle.relay_tree.specs.Budget.{left_of}
use Rattle.relay_tree.specs.Document.{weight, items_of, items_weight, members_weight}
use Rattle.relay_tree.specs.Seen.{members_of}
use Rattle.relay_tree.proofs.budget.+pay.Given as goal

abbrev pub decreases-pay_tree : goal.decreases-pay_tree
decreases-pay_tree l = weight l.tree.now

abbrev pub decreases-pay_items : goal.decreases-pay_items
decreases-pay_items l = 1 + items_weight (items_of l.items.now.items)

abbrev pub decreases-pay_members : goal.decreases-pay_members
decreases-pay_members l = 1 + members_weight (members_of l.members.now.entries)

abbrev pub invariant-pay_items-loop-item : goal.invariant-pay_items-loop-item
invariant-pay_items-loop-item l =
    (left_of (items_weight (items_of (l.item-iterator.rest.now))) l.left
    ≡ left_of (items_weight (items_of l.items.items)) l.budget)
    × (items_weight (items_of (l.item-iterator.rest.now)) ≤ items_weight (items_of l.items.items))

abbrev pub invariant-pay_members-loop-name : goal.invariant-pay_members-loop-name
invariant-pay_members-loop-name l =
    (left_of (members_weight (members_of l.name-iterator.rest.now)) l.left
    ≡ left_of (members_weight (members_of l.members.entries)) l.budget)
    × (members_weight (members_of l.name-iterator.rest.now)
    ≤ members_weight (members_of l.members.entries))

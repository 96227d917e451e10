use Rattle.std.proofs.Common.{Some, ap, arith}
use Rattle.relay_tree.proofs.Elements.{items_length-items_of}
use Rattle.relay_view.proofs.Sizes.{members_length-members_of}
use Rattle.relay_view.proofs.slot.size_of.Goals as goal

pub returns-in-List : goal.returns-in-List
returns-in-List c =
    rw (← c.part.view_is, c.in-List.is, items_length-items_of)
    (ap Some (omega (arith, c.in-List.items.ok.0, c.len.ensures)))

pub returns-in-Members : goal.returns-in-Members
returns-in-Members c =
    rw (← c.part.view_is, c.in-Members.is, members_length-members_of)
    (ap Some c.len-in-Members.ensures.len)

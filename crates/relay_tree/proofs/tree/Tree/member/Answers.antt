use Rattle.std.proofs.Common.{◌∙◌}
use Rattle.relay_tree.proofs.Named.{members_of-lookup}
use Rattle.relay_tree.proofs.tree.Tree.member.Goals as goal

pub returns-in-Members : goal.returns-in-Members
returns-in-Members c =
    rw (← c.self.view_is, c.in-Members.is)
    (c.get.ensures ∙ members_of-lookup c.args.name.now c.in-Members.members.entries)

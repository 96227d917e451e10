use Rattle.std.proofs.Common.{ap, ◌∙◌}
use Rattle.relay_tree.specs.Document.{object}
use Rattle.relay_tree.specs.Seen.{members_of}
use Rattle.relay_apply.proofs.Reinserted.{reinserted_member_entries}
use Rattle.relay_apply.proofs.reinsertion.reinsert_member_in.Goals as goal

pub returns-in-Members : goal.returns-in-Members
returns-in-Members c =
    rw c.in-Members.is (ap (λ es. object (members_of es)) c.put_back.ensures.entries
    ∙ reinserted_member_entries c.in-Members.members.entries c.args.name c.args.value
    c.args.spare.capacity)

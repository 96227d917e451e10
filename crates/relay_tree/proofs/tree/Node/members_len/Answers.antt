use Rattle.std.proofs.Common.{◌≡◌, Some, sym, ap, ◌∙◌, subst}
use Rattle.relay_tree.specs.Part.{IsOrdered}
use Rattle.relay_tree.specs.Seen.{document_of, members_of}
use Rattle.relay_tree.proofs.Named.{members_length-members_of, ordered_entries}
use Rattle.relay_tree.proofs.tree.Node.members_len.Goals as goal

pub returns-in-Members-clause-len : goal.returns-in-Members-clause-len
returns-in-Members-clause-len c =
    rw c.in-Members.is
    (ap Some (c.len.ensures.len ∙ sym (members_length-members_of c.in-Members.members.entries)))

pub returns-in-Members-clause-ordered : goal.returns-in-Members-clause-ordered
returns-in-Members-clause-ordered c = λ ms is.
    let es = c.in-Members.members.entries in
    let whole = sym (ap document_of c.in-Members.is) ∙ is in
    let same : members_of es ≡ ms = cc in
    subst IsOrdered same (ordered_entries es c.len.ensures.ascending)

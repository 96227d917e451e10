use Rattle.std.proofs.Common.{map, ap, ◌∙◌, Some, sym, subst}
use Rattle.relay_tree.specs.Reading.{AreRead, as_read}
use Rattle.relay_tree.specs.Reading as reading
use Rattle.relay_tree.specs.Seen.{members_of}
use Rattle.relay_tree.proofs.ReadLemmas.{each_read, members_read}
use Rattle.relay_tree.proofs.open_object.OpenObject.close.Goals as goal

pub returns-in-Few : goal.returns-in-Few
returns-in-Few c = λ ms are_read.
    let es = c.in-Few.members.entries in
    members_read ms (map as_read es) es
    (subst (λ object. AreRead ms (reading.members_read object)) c.in-Few.is are_read)
    (each_read es) ∙ ap (λ es. Some (members_of es)) (sym c.trim.ensures.entries)

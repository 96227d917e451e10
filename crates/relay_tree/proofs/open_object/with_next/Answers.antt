use Rattle.std.proofs.Common.{map, string_cmp, sym, ap, ◌∙◌}
use Rattle.std.specs.BTreeMap.{insert_entry}
use Rattle.relay_tree.specs.Reading.{as_read}
use Rattle.relay_tree.proofs.ReadLemmas.{insert_read}
use Rattle.relay_tree.proofs.open_object.with_next.Goals as goal

pub returns : goal.returns
returns c =
    let es = c.args.members.entries in
    ap (map as_read) c.in_ok-with_one.ensures ∙ insert_read es c.args.name c.in-Some.value
    ∙ ap (insert_entry string_cmp (map as_read es) c.args.name) (sym c.in-Some.is)

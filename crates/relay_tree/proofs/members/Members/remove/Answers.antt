use Rattle.std.proofs.Common.{get_or, sym, ap, ◌∙◌}
use Rattle.std.specs.List.{remove}
use Rattle.std_collections.proofs.Entries.{lookup-none, remove_entry_none}
use Rattle.std_collections.proofs.Seek.{found_at, missing_at}
use Rattle.relay_tree.specs.Entries.{compared, IsAscending}
use Rattle.relay_tree.proofs.Finding.{below, left_ascending, value_there}
use Rattle.relay_tree.proofs.members.Members.remove.Goals as goal

pub invariant_of-self : goal.invariant_of-self
invariant_of-self c =
    rw c.remove-entry.ensures.items
    (left_ascending c.self.inside.entries.items c.in-Ok.at c.self.invariant)

pub returns-in-Ok-clause-value : goal.returns-in-Ok-clause-value
returns-in-Ok-clause-value c =
    let es = c.args.self.now.entries in
    let there = found_at (compared c.args.name.now) es c.in-Ok.at (sym c.in-Ok.ensures.place) in
    let is = c.remove-entry.ensures.value
    ∙ ap (λ m. get_or m.entries c.in-Ok.at c.remove-entry.result) c.self.view_is in
    sym (there.value ∙ value_there es c.in-Ok.at c.remove-entry.result c.in-Ok.ensures.range is)

pub returns-in-Ok-clause-entries : goal.returns-in-Ok-clause-entries
returns-in-Ok-clause-entries c =
    let es = c.args.self.now.entries in
    c.trim.ensures.entries
    ∙ (c.remove-entry.ensures.items
    ∙ (ap (λ m. remove m.entries c.in-Ok.at) c.self.view_is
    ∙ (found_at (compared c.args.name.now) es c.in-Ok.at (sym c.in-Ok.ensures.place)).removes))

pub returns-in-Err-clause-value : goal.returns-in-Err-clause-value
returns-in-Err-clause-value c =
    let es = c.args.self.now.entries in
    let ascending : IsAscending es = rw (← c.self.view_is) c.self.invariant in
    sym (lookup-none _ es
    (missing_at (compared c.args.name.now) (below c.args.name.now) es c.in-Err.field-0 ascending
    (sym c.in-Err.ensures.place)))

pub returns-in-Err-clause-entries : goal.returns-in-Err-clause-entries
returns-in-Err-clause-entries c =
    let es = c.args.self.now.entries in
    let ascending : IsAscending es = rw (← c.self.view_is) c.self.invariant in
    sym (remove_entry_none _ es
    (missing_at (compared c.args.name.now) (below c.args.name.now) es c.in-Err.field-0 ascending
    (sym c.in-Err.ensures.place)))

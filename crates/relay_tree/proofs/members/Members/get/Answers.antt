use Rattle.std.proofs.Common.{get_or, sym, ap, ◌∙◌}
use Rattle.std_collections.proofs.Entries.{lookup-none}
use Rattle.std_collections.proofs.Seek.{found_at, missing_at}
use Rattle.relay_tree.specs.Entries.{compared, IsAscending}
use Rattle.relay_tree.proofs.Finding.{below, value_there}
use Rattle.relay_tree.proofs.members.Members.get.Goals as goal

pub returns-in-Ok : goal.returns-in-Ok
returns-in-Ok c =
    let es = c.args.self.now.entries in
    let there = found_at (compared c.args.name.now) es c.in-Ok.at (sym c.in-Ok.ensures.place) in
    sym (there.value
    ∙ value_there es c.in-Ok.at c.index.result.now c.in-Ok.ensures.range
    (c.index.ensures ∙ ap (λ m. get_or m.entries c.in-Ok.at c.index.result.now) c.self.view_is))

pub returns-in-Err : goal.returns-in-Err
returns-in-Err c =
    let es = c.args.self.now.entries in
    let ascending : IsAscending es = rw (← c.self.view_is) c.self.invariant in
    sym (lookup-none _ es
    (missing_at (compared c.args.name.now) (below c.args.name.now) es c.in-Err.field-0 ascending
    (sym c.in-Err.ensures.place)))

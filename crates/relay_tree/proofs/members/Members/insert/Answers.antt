use Rattle.std.proofs.Common.{get_or, string_bytes, string_cmp, sym, ap, ◌∙◌}
use Rattle.std.specs.List.{insert}
use Rattle.std.specs.String.{string_cmp_total}
use Rattle.std_collections.specs.Layout.BTreeMap.{seek}
use Rattle.std_collections.proofs.Entries.{lookup-none}
use Rattle.std_collections.proofs.Seek.{found_at, missing_at, insert_entry-Ok, insert_entry_err}
use Rattle.std_collections.proofs.Seek.{sorted_insert}
use Rattle.relay_tree.specs.Entries.{compared, IsAscending}
use Rattle.relay_tree.proofs.Finding.{below, set_ascending, set_there, value_there}
use Rattle.relay_tree.proofs.members.Members.insert.Goals as goal

pub invariant_of-self : goal.invariant_of-self
invariant_of-self c =
    let is = ap (λ m. m.entries) c.self.view_is in
    set_ascending c.self.inside.entries.items c.in-Ok.at c.index_mut.result.now c.replace.new.dest
    (rw is c.in-Ok.ensures.range) c.index_mut.ensures.value c.self.invariant

pub returns-in-Ok-clause-entries : goal.returns-in-Ok-clause-entries
returns-in-Ok-clause-entries c =
    let es = c.args.self.now.entries in
    let is = ap (λ m. m.entries) c.self.view_is in
    let place = sym
    (c.in-Ok.ensures.place ∙ ap (λ name. seek (compared name) es) c.as_str.ensures.value) in
    set_there c.self.inside.entries.items c.in-Ok.at c.index_mut.result.now c.replace.new.dest
    (rw is c.in-Ok.ensures.range) c.index_mut.ensures.value
    ∙ (rw (is, c.replace.ensures.after)
    (insert_entry-Ok string_cmp c.args.name c.args.value es c.in-Ok.at place))

pub returns-in-Ok-clause-old : goal.returns-in-Ok-clause-old
returns-in-Ok-clause-old c =
    let es = c.args.self.now.entries in
    let place = sym
    (c.in-Ok.ensures.place ∙ ap (λ name. seek (compared name) es) c.as_str.ensures.value) in
    let there = found_at (compared (string_bytes c.args.name)) es c.in-Ok.at place in
    let is = c.index_mut.ensures.value
    ∙ ap (λ m. get_or m.entries c.in-Ok.at c.index_mut.result.now) c.self.view_is in
    rw c.replace.ensures.value
    (sym (there.value
    ∙ value_there es c.in-Ok.at c.index_mut.result.now c.in-Ok.ensures.range is))

pub invariant_of-self-in-Err : goal.invariant_of-self-in-Err
invariant_of-self-in-Err c =
    let place = sym
    (c.in-Err.ensures.place
    ∙ ap (λ name. seek (compared name) c.args.self.now.entries) c.as_str.ensures.value) in
    let grown = ap (λ m. m.entries) c.self-in-Err.view_is
    ∙ c.in_ok-reserve-in-Err.ensures.entries in
    rw c.in_ok-insert-in-Err.ensures.items
    (sorted_insert string_cmp c.args.name c.args.value string_cmp_total
    c.self-in-Err.inside.entries.items c.in-Err.at c.self-in-Err.invariant (rw grown place))

pub returns-in_ok-insert-in-Err-clause-entries : goal.returns-in_ok-insert-in-Err-clause-entries
returns-in_ok-insert-in-Err-clause-entries c =
    let es = c.args.self.now.entries in
    let place = sym
    (c.in-Err.ensures.place ∙ ap (λ name. seek (compared name) es) c.as_str.ensures.value) in
    let grown = ap (λ m. m.entries) c.self-in-Err.view_is
    ∙ c.in_ok-reserve-in-Err.ensures.entries in
    c.in_ok-insert-in-Err.ensures.items
    ∙ (ap (λ items. insert items c.in-Err.at (c.args.name, c.args.value)) grown
    ∙ insert_entry_err string_cmp c.args.name c.args.value es c.in-Err.at place)

pub returns-in_ok-insert-in-Err-clause-old : goal.returns-in_ok-insert-in-Err-clause-old
returns-in_ok-insert-in-Err-clause-old c =
    let es = c.args.self.now.entries in
    let name = string_bytes c.args.name in
    let ascending : IsAscending es = rw (← c.self.view_is) c.self.invariant in
    let place = sym
    (c.in-Err.ensures.place ∙ ap (λ name. seek (compared name) es) c.as_str.ensures.value) in
    sym (lookup-none _ es (missing_at (compared name) (below name) es c.in-Err.at ascending place))

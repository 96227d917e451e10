use Rattle.std.proofs.Common.{◌≡◌, ◌∙◌, ap, sym, subst, Some}
use Rattle.std.proofs.lemmas.Result.{IfOk-weaker, on_ok_weaker}
use Rattle.relay_audience.specs.Audiences.{next_number}
use Rattle.relay_audience.specs.Table.{keys, view_in, IsKeyed}
use Rattle.relay_audience.proofs.Places.{joined_new, joined_there, keys_changed, place_found}
use Rattle.relay_audience.proofs.Places.{view_found}
use Rattle.relay_audience.proofs.Tables.{either_outcome}
use Rattle.relay_audience.proofs.table.AudienceTable.join.Goals as goal

pub join_at-requires-clause-there : goal.join_at-requires-clause-there
join_at-requires-clause-there c =
    place_found c.args.view c.in-Some.number.now c.args.self.now.list.items
    (sym (c.in-Some.ensures.value ∙ c.requires.by_view c.args.view))

pub returns-in-Some-clause-ok : goal.returns-in-Some-clause-ok
returns-in-Some-clause-ok c =
    let xs = c.args.self.now.list.items in
    let there = sym (c.in-Some.ensures.value ∙ c.requires.by_view c.args.view) in
    on_ok_weaker c.join_at.result
    (λ new. new ∙ joined_there (next_number xs) c.in-Some.number.now c.args.session c.args.view xs
    c.requires.order there) c.join_at.ensures.ok

pub returns-in-Some-clause-view : goal.returns-in-Some-clause-view
returns-in-Some-clause-view c =
    let xs = c.args.self.now.list.items in
    let n = c.in-Some.number.now in
    let there = sym (c.in-Some.ensures.value ∙ c.requires.by_view c.args.view) in
    let is : view_in n (keys xs) ≡ Some c.args.view =
    view_found c.args.view n xs c.requires.order there in
    IfOk-weaker c.join_at.result (λ shared. view_in n (keys xs) ≡ Some shared)
    (λ shared. shared ≡ c.args.view) (λ shared h. cc) c.join_at.ensures.view

pub returns-in-Some-clause-table : goal.returns-in-Some-clause-table
returns-in-Some-clause-table c =
    let xs = c.args.self.now.list.items in
    let n = c.in-Some.number.now in
    let same : keys c.join_at.new.list.items ≡ keys xs =
    either_outcome c.join_at.result (λ new. ap keys new ∙ keys_changed n c.args.session xs)
    (λ new. ap keys new) c.join_at.ensures.ok c.join_at.ensures.err in
    subst (λ ks. IsKeyed ks c.args.self.now.places c.args.self.now.index) (sym same) c.requires

pub returns-in-None-clause-ok : goal.returns-in-None-clause-ok
returns-in-None-clause-ok c =
    let xs = c.args.self.now.list.items in
    on_ok_weaker c.begin.result
    (λ new. new ∙ joined_new (next_number xs) c.args.session c.args.view xs
    (sym (c.requires.by_view c.args.view) ∙ sym c.in-None.ensures.value))
    c.begin.ensures.ok

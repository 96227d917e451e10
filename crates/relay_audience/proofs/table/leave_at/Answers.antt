use Rattle.std.proofs.Common.{◌∙◌, ◌<◌, length, sym, ap, arith, slice_set, cond}
use Rattle.relay_audience.specs.Sessions.{is_empty, removed}
use Rattle.relay_audience.specs.declared.audience.Audience.{Audience}
use Rattle.relay_audience.specs.Audiences.{less_session}
use Rattle.relay_audience.specs.Table.{dropped, keys}
use Rattle.relay_audience.proofs.Places.{keys_remove, keys_set, left_remove, left_set, placed}
use Rattle.relay_audience.proofs.Places.{within_place}
use Rattle.relay_audience.proofs.table.leave_at.Goals as goal

pub index_mut-audience-requires : goal.index_mut-audience-requires
index_mut-audience-requires c =
    let inside : c.in-Some.place < length c.as_slice.result.now =
    within_place c.args.number c.as_slice.result.now c.in-Some.place (sym c.in-Some.ensures) in
    omega (arith, inside, c.as_slice.ensures.len)

pub remove-requires-then-is_last : goal.remove-requires-then-is_last
remove-requires-then-is_last c =
    let inside : c.in-Some.place < length c.as_slice.result.now =
    within_place c.args.number c.as_slice.result.now c.in-Some.place (sym c.in-Some.ensures) in
    omega (arith, inside, c.as_slice.ensures.len)

pub returns-then-is_last-clause-list : goal.returns-then-is_last-clause-list
returns-then-is_last-clause-list c =
    let xs = c.args.list.now.items in
    let a = c.index_mut-audience.result.now in
    let at = placed c.args.number xs c.as_slice.result.now c.in-Some.place c.in-Some.ensures
    c.as_slice.ensures.value in
    c.remove-then-is_last.ensures.items
    ∙ left_remove c.args.number c.args.session xs c.in-Some.place a
    (record a { sessions = c.remove.new.self }) at
    (ap (λ (b : Audience). is_empty (removed c.args.session b.sessions))
    (sym c.index_mut-audience.ensures.value)
    ∙ ap is_empty (sym c.remove.ensures) ∙ sym c.if-is_last.ensures)

pub returns-then-is_last-clause-gone : goal.returns-then-is_last-clause-gone
returns-then-is_last-clause-gone c =
    let xs = c.args.list.now.items in
    let a = c.index_mut-audience.result.now in
    let at = placed c.args.number xs c.as_slice.result.now c.in-Some.place c.in-Some.ensures
    c.as_slice.ensures.value in
    ap keys c.remove-then-is_last.ensures.items
    ∙ keys_remove c.args.number xs c.in-Some.place (record a { sessions = c.remove.new.self }) at
    ∙ ap (λ b. cond b (dropped c.args.number (keys xs)) (keys xs)) (sym c.if-is_last.true)

pub returns-else-is_last-clause-list : goal.returns-else-is_last-clause-list
returns-else-is_last-clause-list c =
    let xs = c.args.list.now.items in
    let a = c.index_mut-audience.result.now in
    let at = placed c.args.number xs c.as_slice.result.now c.in-Some.place c.in-Some.ensures
    c.as_slice.ensures.value in
    ap (slice_set xs c.in-Some.place)
    (ap (λ ys. record a { sessions = ys }) c.remove.ensures
    ∙ ap (less_session c.args.session) c.index_mut-audience.ensures.value)
    ∙ left_set c.args.number c.args.session xs c.in-Some.place a at
    (ap (λ (b : Audience). is_empty (removed c.args.session b.sessions))
    (sym c.index_mut-audience.ensures.value)
    ∙ ap is_empty (sym c.remove.ensures) ∙ sym c.if-is_last.ensures)

pub returns-else-is_last-clause-gone : goal.returns-else-is_last-clause-gone
returns-else-is_last-clause-gone c =
    let xs = c.args.list.now.items in
    let a = c.index_mut-audience.result.now in
    keys_set xs c.in-Some.place (record a { sessions = c.remove.new.self }) a
    (ap (λ (b : Audience). b.number) c.index_mut-audience.ensures.value)
    (ap (λ (b : Audience). b.view) c.index_mut-audience.ensures.value)
    ∙ ap (λ b. cond b (dropped c.args.number (keys xs)) (keys xs)) (sym c.if-is_last.false)

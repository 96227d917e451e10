use Rattle.std.proofs.Common.{◌∙◌, ◌<◌, length, sym, ap, arith, option_map, Some, slice_set}
use Rattle.relay_audience.specs.declared.audience.Audience.{Audience}
use Rattle.relay_audience.specs.Audiences.{with_session}
use Rattle.relay_audience.proofs.Places.{at_numbered, placed, set_at, view_numbered, within_place}
use Rattle.relay_audience.proofs.table.join_at.Goals as goal

pub index_mut-audience-requires : goal.index_mut-audience-requires
index_mut-audience-requires c =
    let inside : c.in-Some.place < length c.as_slice.result.now =
    within_place c.args.number c.as_slice.result.now c.in-Some.place (sym c.in-Some.ensures) in
    omega (arith, inside, c.as_slice.ensures.len)

pub returns-clause-ok : goal.returns-clause-ok
returns-clause-ok c =
    let xs = c.args.list.now.items in
    let a = c.index_mut-audience.result.now in
    let at = placed c.args.number xs c.as_slice.result.now c.in-Some.place c.in-Some.ensures
    c.as_slice.ensures.value in
    ap (slice_set xs c.in-Some.place)
    (ap (λ ys. record a { sessions = ys }) c.in_ok-insert.ensures.ok
    ∙ ap (with_session c.args.session) c.index_mut-audience.ensures.value)
    ∙ set_at c.args.number (with_session c.args.session) xs c.in-Some.place a at

pub returns-clause-view : goal.returns-clause-view
returns-clause-view c =
    let xs = c.args.list.now.items in
    let a = c.index_mut-audience.result.now in
    let at = placed c.args.number xs c.as_slice.result.now c.in-Some.place c.in-Some.ensures
    c.as_slice.ensures.value in
    view_numbered c.args.number xs
    ∙ ap (option_map (λ (b : Audience). b.view)) (at_numbered c.args.number xs c.in-Some.place a at)
    ∙ ap (λ (b : Audience). Some b.view) (sym c.index_mut-audience.ensures.value)
    ∙ ap Some (sym c.in_ok-view.ensures)

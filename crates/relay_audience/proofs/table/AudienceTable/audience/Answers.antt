use Rattle.std.proofs.Common.{◌∙◌, ◌<◌, length, sym, ap, arith, Some}
use Rattle.std.specs.Option.{option_copied}
use Rattle.relay_audience.specs.Table.{place}
use Rattle.relay_audience.proofs.Places.{at_numbered, numbered_none, placed, within_place}
use Rattle.relay_audience.proofs.table.AudienceTable.audience.Goals as goal

pub returns-in_err-place : goal.returns-in_err-place
returns-in_err-place c =
    ap option_copied c.from_residual.ensures
    ∙ sym (numbered_none c.args.number c.args.self.now.list.items
    (sym (c.in_err-place.ensures ∙ ap (place c.args.number) c.as_slice.ensures.value)))

pub index-requires : goal.index-requires
index-requires c =
    let inside : c.in_ok-place.place < length c.as_slice.result.now =
    within_place c.args.number c.as_slice.result.now c.in_ok-place.place
    (sym c.in_ok-place.ensures) in
    omega (arith, inside, c.as_slice.ensures.len)

pub returns : goal.returns
returns c =
    let xs = c.args.self.now.list.items in
    let at = placed c.args.number xs c.as_slice.result.now c.in_ok-place.place
    c.in_ok-place.ensures c.as_slice.ensures.value in
    ap Some c.index.ensures
    ∙ sym (at_numbered c.args.number xs c.in_ok-place.place c.index.result.now at)

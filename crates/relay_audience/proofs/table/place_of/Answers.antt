use Rattle.std.proofs.Common.{◌∙◌, sym, ap}
use Rattle.relay_audience.specs.declared.audience.Audience.{Audience}
use Rattle.relay_audience.proofs.Places.{found, found_other, found_past}
use Rattle.relay_audience.proofs.table.place_of.Goals as goal

pub returns-in_err-audience : goal.returns-in_err-audience
returns-in_err-audience c =
    c.from_residual.ensures
    ∙ sym (found_past c.args.list.now c.args.number c.place_from-place.result
    c.place_from-place.ensures c.in_err-audience.ensures.lookup.3)

pub returns-then-audience-number : goal.returns-then-audience-number
returns-then-audience-number c =
    let at = c.in_ok-audience.ensures.lookup in
    sym (found c.args.list.now c.args.number c.place_from-place.result c.place_from-place.ensures
    c.in_ok-audience.audience.now at.3.0
    (ap (λ (a : Audience). a.number) (sym at.1) ∙ c.if-audience-number.true))

pub returns-else-audience-number : goal.returns-else-audience-number
returns-else-audience-number c =
    let at = c.in_ok-audience.ensures.lookup in
    sym (found_other c.args.list.now c.args.number c.place_from-place.result
    c.place_from-place.ensures c.in_ok-audience.audience.now c.requires at.3.0
    (λ is. c.if-audience-number.false (ap (λ (a : Audience). a.number) at.1 ∙ is)))

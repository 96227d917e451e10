use Rattle.std.proofs.Common.{◌∙◌, ◌+◌, ◌-◌, ◌<◌, length, sym, ap, arith}
use Rattle.relay_audience.specs.declared.audience.Audience.{Audience}
use Rattle.relay_audience.proofs.Places.{next_last}
use Rattle.relay_audience.proofs.table.next_number.Goals as goal

pub returns-in-Some-checked_add : goal.returns-in-Some-checked_add
returns-in-Some-checked_add c =
    let xs = c.args.list.now in
    let at = c.in-Some.ensures.item in
    let inside : 0 < length xs = at.3.0 in
    c.in-Some-checked_add.ensures.1
    ∙ ap (λ (a : Audience). a.number + 1) at.1
    ∙ sym (next_last xs (length xs - 1) c.in-Some.newest.now c.requires (omega (arith, inside)))

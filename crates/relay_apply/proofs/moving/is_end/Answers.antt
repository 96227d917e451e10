use Rattle.std.proofs.Common.{◌≡◌, length, ap, ◌∙◌, nat_eq, arith}
use Rattle.relay_apply.proofs.Stays.{is_end-items_of}
use Rattle.relay_apply.proofs.moving.is_end.Goals as goal

pub returns-in-Some : goal.returns-in-Some
returns-in-Some c =
    let v = c.in-List.items in
    let ok = v.ok in
    let small = v.small in
    let long : c.len.result ≡ length v.items = c.len.ensures ∙ ok.0 in
    rw (
      ← c.container.view_is,
      c.in-List.is,
    ) (ap (nat_eq c.saturating_add.result) long
    ∙ is_end-items_of v.items c.args.token.now c.in-Some.index c.saturating_add.result
    (omega arith) c.in-Some.ensures c.saturating_add.ensures)

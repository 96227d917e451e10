use Rattle.std.proofs.Common.{◌≡◌, length, vec_capacity, ◌∙◌, arith}
use Rattle.std.specs.List.{insert}
use Rattle.relay_apply.proofs.Reinserted.{no_space, past_end, with_space}
use Rattle.relay_apply.proofs.reinsertion.reinsert_item.Goals as goal
use Rattle.relay_apply.proofs.reinsertion.reinsert_item.Goals.{then-len-capacity-via-then-len-capacity}
use Rattle.relay_apply.proofs.reinsertion.reinsert_item.Goals.{then-len-capacity-via-else-len-capacity+then-index-len}

pub returns-then-len-capacity : goal.returns-then-len-capacity
returns-then-len-capacity c =
    let v = c.args.items.now in
    let ok = v.ok in
    let long : c.len.result ≡ length v.items = c.len.ensures ∙ ok.0 in
    elim c.then-len-capacity.branch [
      | then-len-capacity-via-then-len-capacity w ↦
          let full = w.if-len-capacity.true in
          no_space v.items (vec_capacity c.args.spare) c.args.index c.args.element (omega (
            arith,
            full,
            c.capacity.ensures,
            long,
          ))
      | then-len-capacity-via-else-len-capacity+then-index-len w ↦
          let again : w.len-else-len-capacity.result ≡ length v.items =
          w.len-else-len-capacity.ensures ∙ ok.0 in
          past_end v.items (vec_capacity c.args.spare) c.args.index c.args.element (omega (
            arith,
            w.if-index-len.true,
            again,
          ))
    ]

pub returns : goal.returns
returns c =
    let v = c.args.items.now in
    let ok = v.ok in
    let long : c.len.result ≡ length v.items = c.len.ensures ∙ ok.0 in
    let again : c.len-else-len-capacity.result ≡ length v.items =
    c.len-else-len-capacity.ensures ∙ ok.0 in
    let size = c.capacity.ensures in
    let large = c.if-len-capacity.false in
    let inside = c.if-index-len.false in
    let whole : c.insert.new.self.items
    ≡ insert c.ensure_capacity.new.items.items c.args.index c.args.element =
    rw c.unwrap.ensures at c.insert.ensures.items in
    rw (whole, c.ensure_capacity.ensures.items)
    (with_space v.items (vec_capacity c.args.spare) c.args.index c.args.element (omega (
      arith,
      large,
      size,
      long,
    )) (omega (arith, inside, again)))

use Rattle.std.proofs.Common.{◌≡◌, ◌∙◌, ◌⊎◌, inl, inr, sym, length}
use Rattle.relay_audience.proofs.Views.{ended}
use Rattle.relay_audience.proofs.view_order.compare_slots.Goals as goal

pub returns : goal.returns
returns c =
    let v = c.loop-slot.slot-iterator.a.rest.now in
    let w = c.loop-slot.slot-iterator.b.rest.now in
    let some : (length v ≡ 0) ⊎ (length w ≡ 0) =
    elim c.in-None.ensures.steps [ inl e ↦ inl e.1.0 | inr e ↦ inr e.1.0 ] in
    c.cmp.ensures
    ∙ sym (ended v w (length c.args.slots.now) (length c.args.others.now) some
    c.loop-slot.invariant.len)
    ∙ c.loop-slot.invariant.same

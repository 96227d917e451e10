use Rattle.std.proofs.Common.{◌≡◌, ◌+◌, ◌||◌, ◌∙◌, take, sym, ap, subst, Bool}
use Rattle.std.specs.List.{list_any}
use Rattle.std.proofs.lemmas.List.Folds.{list_any_more}
use Rattle.relay_view.specs.declared.slot.Slot.{Slot}
use Rattle.relay_translate.specs.SlotIndex.{EachIsWatched, Leaves}
use Rattle.relay_translate.proofs.Standing.{leaves_more, leaves_kept}
use Rattle.relay_translate.proofs.slot_index.leave.Goals as goal
use Rattle.relay_translate.proofs.slot_index.leave.Goals.{then-not-is_among, else-not-is_among}

pub loop-slot-preserved : goal.loop-slot-preserved
loop-slot-preserved c =
    let old = c.args.index.now in
    let session = c.args.session in
    let slots = c.args.slots.now in
    let kept = c.args.kept.now in
    let i = c.loop-slot.slot-index in
    let slot = c.slot-item.result in
    let next : (p : Slot → Bool)
    → list_any p (take (i + 1) slots) ≡ (list_any p (take i slots) || p slot) =
    λ p. list_any_more p slots i slot c.loop-slot-test.true
    ∙ ap (λ x. list_any p (take i slots) || p x) (sym c.slot-item.is) in
    elim c.if-not-is_among.branch [
      | then-not-is_among w ↦
          record {
            left =
                subst (λ new. Leaves old new session (take (i + 1) slots) kept) (sym w.index-is)
                (leaves_more old c.loop-slot.index session (take i slots)
                (take (i + 1) slots) kept slot next c.loop-slot.invariant.left
                w.leave_slot.new.index
                (sym c.is_among.ensures ∙ w.if-not-is_among.true) w.leave_slot.ensures.left);
            watched = subst EachIsWatched (sym w.index-is) w.leave_slot.ensures.watched;
          }
      | else-not-is_among w ↦
          record {
            left =
                subst (λ new. Leaves old new session (take (i + 1) slots) kept) (sym w.index-is)
                (leaves_kept old c.loop-slot.index session (take i slots)
                (take (i + 1) slots) kept slot next c.loop-slot.invariant.left
                (sym c.is_among.ensures ∙ w.if-not-is_among.false));
            watched = subst EachIsWatched (sym w.index-is) c.loop-slot.invariant.watched;
          }
    ]

-- The order of views, by which the audience of a view is found.
use Rattle.std.specs.Prelude.{ℕ, Bool, refl}
use Rattle.std.specs.Cmp.{IsTotalOrder, IsEquivalence, nat_cmp_total, on_total, then_total}
use Rattle.std.specs.Cmp.{eq_by_cmp_equiv, IsPartialEquivalence, IsPartialOrder}
use Rattle.std.specs.Cmp.{partial_equiv_from_equiv, partial_order_from_agreeing_total}
use Rattle.std.specs.Cmp.Lexicographic.{slice_cmp, lists_total, nat_list_cmp_total}
use Rattle.std.specs.Ordering.{as_partial_cmp, is_eq, nat_cmp, on, then_cmp}
use Rattle.std.specs.declared.cmp.Ordering.{Ordering}
use Rattle.relay_view.specs.View.{View}
use Rattle.relay_view.specs.declared.slot.Slot.{Slot}
use Rattle.relay_view.specs.declared.slot.SlotKind.{SlotKind}
use Rattle.relay_view.specs.declared.slot.SlotKind.TheVariants.{Value, Size}

-- a value is before a size
abbrev pub kind_rank : SlotKind → ℕ
kind_rank Value = 0
kind_rank Size = 1

-- by the pointers, token by token and each byte by byte, and then by the kinds
abbrev pub slot_cmp : Slot → Slot → Ordering
slot_cmp = then_cmp (on (λ s. s.pointer) (slice_cmp (slice_cmp nat_cmp)))
    (on (λ s. kind_rank s.kind) nat_cmp)

-- slot by slot; a view is before those that begin with its slots and have more
abbrev pub view_cmp : View → View → Ordering
view_cmp = slice_cmp slot_cmp

-- whether the views have the same slots in the same order
abbrev pub same_view : View → View → Bool
same_view v w = is_eq (view_cmp v w)

-- ---- the laws of the order

slot_cmp_total : IsTotalOrder slot_cmp
slot_cmp_total =
    then_total (on_total (λ (s : Slot). s.pointer) (lists_total nat_list_cmp_total))
    (on_total (λ (s : Slot). kind_rank s.kind) nat_cmp_total)

pub view_cmp_total : IsTotalOrder view_cmp
view_cmp_total = lists_total slot_cmp_total

pub same_view_equiv : IsEquivalence same_view
same_view_equiv = eq_by_cmp_equiv view_cmp_total

pub same_view_partial : IsPartialEquivalence same_view
same_view_partial = partial_equiv_from_equiv same_view_equiv

pub view_cmp_partial : IsPartialOrder same_view (as_partial_cmp view_cmp)
view_cmp_partial =
    partial_order_from_agreeing_total view_cmp view_cmp_total (λ v w. refl) (λ v w. refl)

-- Changes translate to no operation on a view if they touch none of its slots.
use Rattle.std.proofs.Common.{◌≡◌, ℕ, suc, List, [], ◌∷◌, ◌++◌, flat_map, false, not, ◌||◌, refl}
use Rattle.std.specs.List.{list_any}
use Rattle.relay_tree.specs.Document.{Document}
use Rattle.relay_tree.proofs.Equal.{neither}
use Rattle.relay_patch.specs.declared.change.Change.{Change}
use Rattle.relay_view.specs.View.{View}
use Rattle.relay_view.specs.declared.slot.Slot.{Slot}
use Rattle.relay_translate.specs.Touch.{Touch, Apart, Inside, Reset, touch_slot}
use Rattle.relay_translate.specs.Translate.{in_view, op_of, is_reset, when_inside, slot_op}
use Rattle.relay_translate.specs.Translate.{local_from}
use Rattle.relay_translate.specs.Local.{is_apart, some_reset}
use Rattle.relay_translate.specs.Watches.{touches, is_touched}

unreset : (s : Slot) (changes : List Change) → is_touched changes s ≡ false
    → some_reset s changes ≡ false
unreset s [] h = refl
unreset s (c ∷ cs) h =
    let b = neither (touches c s) (is_touched cs s) h in
    go (touch_slot c s) b.0 (unreset s cs b.1)
  where
    go : (t : Touch) → not (is_apart t) ≡ false → some_reset s cs ≡ false
        → (is_reset t || some_reset s cs) ≡ false
    go Apart k rest = rest
    go Inside k rest = rest
    go Reset k rest = cc

no_operation : (k : ℕ) (s : Slot) (changes : List Change) → is_touched changes s ≡ false
    → flat_map (slot_op k s) changes ≡ []
no_operation k s [] h = refl
no_operation k s (c ∷ cs) h =
    let b = neither (touches c s) (is_touched cs s) h in
    go (touch_slot c s) b.0 (no_operation k s cs b.1)
  where
    go : (t : Touch) → not (is_apart t) ≡ false → flat_map (slot_op k s) cs ≡ []
        → when_inside t (in_view k s.pointer (op_of s.pointer c)) ++ flat_map (slot_op k s) cs ≡ []
    go Apart k rest = rest
    go Inside k rest = cc
    go Reset k rest = rest

pub untold : (k : ℕ) (changes : List Change) (now : Document) (view : View)
    → list_any (is_touched changes) view ≡ false → local_from k changes now view ≡ []
untold k changes now [] h = refl
untold k changes now (s ∷ view) h =
    let b = neither (is_touched changes s) (list_any (is_touched changes) view) h in
    rw (unreset s changes b.0, no_operation k s changes b.0) (untold (suc k) changes now view b.1)

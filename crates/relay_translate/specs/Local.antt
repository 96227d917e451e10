-- The operations of a translation on each slot: none if no change touches it, one for each change
-- inside its value, or one replacement if a change reset it.
use Rattle.std.specs.Prelude.{◌≡◌, ℕ, List, [], ◌∷◌, map, Bool, true, false, ◌||◌, Some, bytes_eq}
use Rattle.std.specs.Prelude.{slice_get}
use Rattle.std.specs.List.{filter, list_all, list_any}
use Rattle.relay_tree.specs.Document.{Document}
use Rattle.relay_pointer.specs.Index.{index_text}
use Rattle.relay_pointer.specs.Path.{Path}
use Rattle.relay_patch.specs.declared.op.Op.{Op}
use Rattle.relay_patch.specs.declared.op.Op.TheVariants.{Add, Remove, Replace, Move, Copy, Test}
use Rattle.relay_patch.specs.declared.change.Change.{Change}
use Rattle.relay_view.specs.View.{View, slot}
use Rattle.relay_view.specs.declared.slot.Slot.{Slot}
use Rattle.relay_translate.specs.Touch.{Touch, Apart, Inside, Reset, touch_slot}
use Rattle.relay_translate.specs.Translate.{is_reset, op_of, in_view}

abbrev pub is_apart : Touch → Bool
is_apart Apart = true
is_apart Inside = false
is_apart Reset = false

abbrev pub is_inside : Touch → Bool
is_inside Apart = false
is_inside Inside = true
is_inside Reset = false

-- every change is apart from what the slot shows
abbrev pub all_apart : Slot → List Change → Bool
all_apart s changes = list_all (λ c. is_apart (touch_slot c s)) changes

-- some change resets the slot
abbrev pub some_reset : Slot → List Change → Bool
some_reset s changes = list_any (λ c. is_reset (touch_slot c s)) changes

-- the changes inside the slot's value, in order; for a size there are none
abbrev pub changes_inside : Slot → List Change → List Change
changes_inside s changes = filter (λ c. is_inside (touch_slot c s)) changes

-- the path begins with the index of slot k
abbrev pub goes_through : ℕ → Path → Bool
goes_through k [] = false
goes_through k (t ∷ path) = bytes_eq t (index_text k)

-- a path of the operation begins with the index of slot k
abbrev pub names : ℕ → Op → Bool
names k (Add path v) = goes_through k path
names k (Remove path) = goes_through k path
names k (Replace path v) = goes_through k path
names k (Move from path) = goes_through k from || goes_through k path
names k (Copy from path) = goes_through k from || goes_through k path
names k (Test path v) = goes_through k path

-- the operations with a path into slot k, in order
abbrev pub on_slot : ℕ → List Op → List Op
on_slot k ops = filter (names k) ops

-- A slot has no operation if every change is apart from it.
abbrev pub LeavesApart : List Change → View → List Op → Type 0
LeavesApart changes pointers ops =
    (k : ℕ) (s : Slot) → slice_get pointers k ≡ Some s → all_apart s changes ≡ true
    → on_slot k ops ≡ []

-- A slot that no change resets has one operation for each change inside its value, in order.
abbrev pub FollowsInside : List Change → View → List Op → Type 0
FollowsInside changes pointers ops =
    (k : ℕ) (s : Slot) → slice_get pointers k ≡ Some s → some_reset s changes ≡ false
    → on_slot k ops ≡ map (λ c. in_view k s.pointer (op_of s.pointer c)) (changes_inside s changes)

-- A slot that some change resets has one operation, which replaces it with what it shows of the
-- present document.
abbrev pub ReplacesReset : List Change → Document → View → List Op → Type 0
ReplacesReset changes now pointers ops =
    (k : ℕ) (s : Slot) → slice_get pointers k ≡ Some s → some_reset s changes ≡ true
    → on_slot k ops ≡ Replace (index_text k ∷ []) (slot s now) ∷ []

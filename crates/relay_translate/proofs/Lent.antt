-- Operations on slots, from borrowed changes.
use Rattle.std.proofs.Common.{◌≡◌, ℕ, List, [], ◌∷◌, map, flat_map, Bool, true, false, ◌||◌, Bor}
use Rattle.std.proofs.Common.{refl, ap}
use Rattle.std.specs.List.{list_any}
use Rattle.relay_tree.specs.Document.{Document}
use Rattle.relay_pointer.specs.Index.{index_text}
use Rattle.relay_patch.specs.declared.change.Change.{Change}
use Rattle.relay_patch.specs.declared.op.Op.TheVariants.{Replace}
use Rattle.relay_view.specs.View.{slot}
use Rattle.relay_view.specs.declared.slot.Slot.{Slot}
use Rattle.relay_translate.specs.Touch.{touch_slot}
use Rattle.relay_translate.specs.Translate.{is_reset, slot_op, slot_ops}

list_any-map : {A B : Type 0} (f : A → B) (p : B → Bool) (xs : List A)
    → list_any p (map f xs) ≡ list_any (λ x. p (f x)) xs
list_any-map f p [] = refl
list_any-map f p (x ∷ xs) = ap (λ b. p (f x) || b) (list_any-map f p xs)

pub reset_slot : (k : ℕ) (s : Slot) (changes : List (Bor Change)) (now : Document)
    → list_any (λ c. is_reset (touch_slot c.now s)) changes ≡ true
    → slot_ops k s (map (λ c. c.now) changes) now ≡ Replace (index_text k ∷ []) (slot s now) ∷ []
reset_slot k s changes now h =
    rw (list_any-map (λ (c : Bor Change). c.now) (λ c. is_reset (touch_slot c s)) changes, h) refl

pub kept_slot : (k : ℕ) (s : Slot) (changes : List (Bor Change)) (now : Document)
    → list_any (λ c. is_reset (touch_slot c.now s)) changes ≡ false
    → slot_ops k s (map (λ c. c.now) changes) now
    ≡ flat_map (slot_op k s) (map (λ c. c.now) changes)
kept_slot k s changes now h =
    rw (list_any-map (λ (c : Bor Change). c.now) (λ c. is_reset (touch_slot c s)) changes, h) refl

-- The sessions that a list gains from the index.
use Rattle.std.proofs.Common.{◌≡◌, ◌<◌, length, arith, ℕ, ◌⊎◌, inl, inr, List, [], ◌∷◌, map, Bool}
use Rattle.std.proofs.Common.{true, false, not, ◌||◌, refl, sym, ap, ◌∙◌}
use Rattle.std.specs.List.{list_any}
use Rattle.std.specs.Cmp.{both_ways}
use Rattle.std.specs.FinMap as map
use Rattle.relay_pointer.specs.Path.{Path, is_prefix}
use Rattle.relay_patch.specs.declared.change.Change.{Change}
use Rattle.relay_pointer.proofs.Prefixes.{same_itself}
use Rattle.relay_view.specs.declared.slot.Slot.{Slot}
use Rattle.relay_view.specs.declared.slot.SlotKind.{SlotKind}
use Rattle.relay_view.specs.declared.slot.SlotKind.TheVariants.{Value, Size}
use Rattle.relay_translate.specs.Touch.{touch_slot}
use Rattle.relay_translate.specs.Local.{is_apart}
use Rattle.relay_translate.specs.Watches.{Watches, slots_of, touches}
use Rattle.relay_translate.specs.SlotIndex.{SlotIndex, Found, IsWithin, named, IsIndex, Gains}
use Rattle.relay_translate.specs.SlotIndex.{same_kind, same_slot, stands}
use Rattle.relay_translate.proofs.Paths.{prefix_length}
use Rattle.relay_translate.proofs.Near.{near_places, touched_near}
use Rattle.relay_translate.proofs.Standing.{slots_same}
use Rattle.relay_translate.proofs.Watched.{any_some}

-- nothing begins with a path that is longer than all pointers
pub gains_beyond : (c : Change) (path : Path) (deepest : ℕ) (index : SlotIndex) (sessions : List ℕ)
    → IsWithin deepest index → deepest < length path
    → Gains (is_prefix path) c index sessions sessions
gains_beyond c path deepest index sessions within beyond =
    record {
      kept = λ s h. h;
      found = λ v s there touched begins. absurd
          (omega (arith, within v s there, prefix_length path v.pointer begins, beyond));
      only = λ s h. inl h;
    }

-- two gains, one after the other
pub gains_either : (f g : Path → Bool) (c : Change) (index : SlotIndex) (old between new : List ℕ)
    → Gains f c index old between → Gains g c index between new
    → Gains (λ q. f q || g q) c index old new
gains_either f g c index old between new h k =
    record {
      kept = λ s there. k.kept s (h.kept s there);
      found = λ v s there touched near. either v s there touched (f v.pointer)
          (g v.pointer) refl refl near;
      only = λ s there. back s (k.only s there);
    }
  where
    either : (v : Slot) (s : ℕ) → stands index v s ≡ true → touches c v ≡ true → (x y : Bool)
        → f v.pointer ≡ x → g v.pointer ≡ y → (x || y) ≡ true → named new s ≡ true
    either v s there touched true y is also near = k.kept s (h.found v s there touched is)
    either v s there touched false true is also near = k.found v s there touched also
    either v s there touched false false is also near = cc

    back : (s : ℕ)
        → (named between s ≡ true) ⊎ ((v : Slot) × (stands index v s ≡ true) × (touches c v ≡ true))
        → (named old s ≡ true) ⊎ ((v : Slot) × (stands index v s ≡ true) × (touches c v ≡ true))
    back s (inl there) = h.only s there
    back s (inr some) = inr some

-- checking the slots near the places of a change finds all sessions that it touches
pub gains_all : (c : Change) (near : Path → Bool) (index : SlotIndex) (old new : List ℕ)
    → ((q : Path) → near_places c q ≡ near q) → Gains near c index old new
    → Gains (λ q. true) c index old new
gains_all c near index old new same h =
    record {
      kept = h.kept;
      found = λ v s there touched all. h.found v s there touched
          (sym (same v.pointer)
          ∙ touched_near c v.pointer v.kind (not_apart (is_apart (touch_slot c v)) touched));
      only = h.only;
    }
  where
    not_apart : (b : Bool) → not b ≡ true → b ≡ false
    not_apart true k = cc
    not_apart false k = refl

-- ---- one change after the other

pub any_map : {A B : Type 0} (f : A → B) (p : B → Bool) (xs : List A)
    → list_any p (map f xs) ≡ list_any (λ x. p (f x)) xs
any_map f p [] = refl
any_map f p (x ∷ xs) = ap (λ b. p (f x) || b) (any_map f p xs)

slot_itself : (v : Slot) → same_slot v v ≡ true
slot_itself v = rw (same_itself v.pointer) (go v.kind)
  where
    go : (kind : SlotKind) → same_kind kind kind ≡ true
    go Value = refl
    go Size = refl

-- what stands in the index are the slots of the views
pub found_exactly : (test : Slot → Bool) (index : SlotIndex) (watches : Watches) (sessions : List ℕ)
    → IsIndex index watches → Found test index sessions → (s : ℕ)
    → named sessions s ≡ list_any test (slots_of (map.get watches s))
found_exactly test index watches sessions is h s = both_ways _ _ seen there
  where
    view : List Slot
    view = slots_of (map.get watches s)

    seen : named sessions s ≡ true → list_any test view ≡ true
    seen k =
        let some = h.only s k in
        let slot = any_some (same_slot some.0) view (sym (is some.0 s) ∙ some.1) in
        slot.2 test (ap test (sym (slots_same some.0 slot.0 slot.1)) ∙ some.2)

    there : list_any test view ≡ true → named sessions s ≡ true
    there k =
        let slot = any_some test view k in
        h.found slot.0 s (is slot.0 s ∙ slot.2 (same_slot slot.0) (slot_itself slot.0)) slot.1

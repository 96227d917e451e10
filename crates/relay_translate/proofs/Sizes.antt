-- The sizes of a translation's operations.
use Rattle.std.proofs.Common.{◌≡◌, ℕ, suc, ◌+◌, List, [], ◌∷◌, ◌++◌, length, Bool, true, false}
use Rattle.std.proofs.Common.{Result, Ok, Err, refl, if◌then◌else◌, arith, length-drop, flat_map}
use Rattle.std.proofs.Common.{◌≤◌, Option, Some, None, option_and_then}
use Rattle.std.specs.List.{AllByRecursion, list_any}
use Rattle.std.specs.Result.{result_ok}
use Rattle.relay_tree.specs.Document.{Document, depth}
use Rattle.relay_pointer.specs.Index.{index_text}
use Rattle.relay_pointer.specs.Path.{Path, is_prefix}
use Rattle.relay_patch.specs.declared.fault.Cause.{Cause}
use Rattle.relay_patch.specs.Walk.{walk}
use Rattle.relay_patch.specs.declared.op.Op.{Op}
use Rattle.relay_patch.specs.declared.op.Op.TheVariants.{Add, Remove, Replace, Move, Copy, Test}
use Rattle.relay_patch.specs.declared.change.Change.{Change}
use Rattle.relay_patch.specs.declared.change.Change.TheVariants as change
use Rattle.relay_patch.specs.Sizes.{IsShort, IsFlat, OpFits, ChangeFits}
use Rattle.relay_patch.proofs.Depths.{walk_depth}
use Rattle.relay_patch.proofs.Walks.{at-walk}
use Rattle.relay_view.specs.View.{View, shown, slot, slot_of}
use Rattle.relay_view.specs.declared.slot.Slot.{Slot}
use Rattle.relay_view.specs.declared.slot.SlotKind.{SlotKind}
use Rattle.relay_view.proofs.Depths.{shown_depth}
use Rattle.relay_translate.specs.Touch.{Touch, Inside, touch_slot, touch_place}
use Rattle.relay_translate.specs.Translate.{is_reset, op_of, move_op, with_paths, in_slot}
use Rattle.relay_translate.specs.Translate.{when_inside, slot_op, slot_ops, local_from}
use Rattle.relay_translate.specs.Sizes.{FitsWithChanges}

All-append : (n m : ℕ) (a b : List Op) → AllByRecursion (OpFits n m) a
    → AllByRecursion (OpFits n m) b → AllByRecursion (OpFits n m) (a ++ b)
All-append n m [] b h k = k
All-append n m (op ∷ a) b h k = (h.0, All-append n m a b h.1 k)

move_fits : (a b : Touch) (n m : ℕ) (from to : Path) (v : Document) → IsShort n from → IsShort n to
    → IsFlat m v → OpFits n m (move_op a b from to v)
move_fits Inside Inside n m from to v h k l = (h, k)
move_fits Inside _ n m from to v h k l = h
move_fits _ b n m from to v h k l = (k, l)

copy_fits : (x : Bool) (n m : ℕ) (from to : Path) (v : Document) → IsShort n from → IsShort n to
    → IsFlat m v → OpFits n m (if x then Copy from to else Add to v)
copy_fits true n m from to v h k l = (h, k)
copy_fits false n m from to v h k l = (k, l)

op_fits : (n m : ℕ) (q : Path) (c : Change) → ChangeFits n m c → OpFits n m (op_of q c)
op_fits n m q (change.Move from to v) h =
    move_fits (touch_place from q) (touch_place to q) n m from.path to.path v h.0 h.1 h.2
op_fits n m q (change.Copy from to v) h =
    copy_fits (is_prefix q from) n m from to.path v h.0 h.1 h.2
op_fits n m q _ h = h

in_slot_short : (n k : ℕ) (q path : Path) → IsShort n path → IsShort (n + 2) (in_slot k q path)
in_slot_short n k q path h = let e = length-drop (length q) path in omega (arith, e)

flatter : (m : ℕ) (v : Document) → IsFlat m v → IsFlat (m + 1) v
flatter m v h = omega arith

paths_fit : (n m k : ℕ) (q : Path) (op : Op) → OpFits n m op
    → OpFits (n + 2) (m + 1) (with_paths (in_slot k q) op)
paths_fit n m k q (Add path v) h = (in_slot_short n k q path h.0, flatter m v h.1)
paths_fit n m k q (Remove path) h = in_slot_short n k q path h
paths_fit n m k q (Replace path v) h = (in_slot_short n k q path h.0, flatter m v h.1)
paths_fit n m k q (Move from path) h = (in_slot_short n k q from h.0, in_slot_short n k q path h.1)
paths_fit n m k q (Copy from path) h = (in_slot_short n k q from h.0, in_slot_short n k q path h.1)
paths_fit n m k q (Test path v) h = (in_slot_short n k q path h.0, flatter m v h.1)

when_fits : (n m : ℕ) (t : Touch) (op : Op) → OpFits n m op
    → AllByRecursion (OpFits n m) (when_inside t op)
when_fits n m Inside op h = (h, tt)
when_fits n m _ op h = tt

changes_fit : (n m k : ℕ) (s : Slot) (changes : List Change)
    → AllByRecursion (ChangeFits n m) changes
    → AllByRecursion (OpFits (n + 2) (m + 1)) (flat_map (slot_op k s) changes)
changes_fit n m k s [] h = tt
changes_fit n m k s (c ∷ cs) h =
    All-append (n + 2) (m + 1) (slot_op k s c) (flat_map (slot_op k s) cs)
    (when_fits (n + 2) (m + 1) (touch_slot c s)
    (with_paths (in_slot k s.pointer) (op_of s.pointer c))
    (paths_fit n m k s.pointer (op_of s.pointer c) (op_fits n m s.pointer c h.0)))
    (changes_fit n m k s cs h.1)

-- what a slot shows of a value is as deep as the document, at most
shown_flat : (kind : SlotKind) (v d : Document) → depth v ≤ depth d → (m : ℕ) → IsFlat m d
    → IsFlat (m + 1) (slot_of (shown kind v))
shown_flat kind v d h m flat = go (shown kind v) refl
  where
    go : (o : Option Document) → shown kind v ≡ o → IsFlat (m + 1) (slot_of o)
    go None e = omega arith
    go (Some w) e = let k = shown_depth kind v w e in omega (arith, k, h, flat)

slot_flat : (m : ℕ) (s : Slot) (d : Document) → IsFlat m d → IsFlat (m + 1) (slot s d)
slot_flat m s d h = rw (← at-walk s.pointer d) (go (walk d s.pointer) refl)
  where
    go : (r : Result Document Cause) → walk d s.pointer ≡ r
        → IsFlat (m + 1) (slot_of (option_and_then (shown s.kind) (result_ok r)))
    go (Ok v) e = let k = walk_depth s.pointer d v e in shown_flat s.kind v d (omega (arith, k)) m h
    go (Err e) k = omega arith

slot_fits : (n m k : ℕ) (s : Slot) (changes : List Change) (now : Document)
    → AllByRecursion (ChangeFits n m) changes → IsFlat m now
    → AllByRecursion (OpFits (n + 2) (m + 1)) (slot_ops k s changes now)
slot_fits n m k s changes now h flat = go (list_any (λ c. is_reset (touch_slot c s)) changes)
  where
    go : (x : Bool)
        → AllByRecursion (OpFits (n + 2) (m + 1))
        (if x then Replace (index_text k ∷ []) (slot s now) ∷ []
        else flat_map (slot_op k s) changes)
    go true = ((omega arith, slot_flat m s now flat), tt)
    go false = changes_fit n m k s changes h

local_fits : (n m k : ℕ) (changes : List Change) (now : Document) (pointers : View)
    → AllByRecursion (ChangeFits n m) changes → IsFlat m now
    → AllByRecursion (OpFits (n + 2) (m + 1)) (local_from k changes now pointers)
local_fits n m k changes now [] h flat = tt
local_fits n m k changes now (s ∷ pointers) h flat =
    All-append (n + 2) (m + 1) (slot_ops k s changes now) (local_from (suc k) changes now pointers)
    (slot_fits n m k s changes now h flat) (local_fits n m (suc k) changes now pointers h flat)

pub fits_with_changes : FitsWithChanges
fits_with_changes changes now pointers n m h flat = local_fits n m 0 changes now pointers h flat

-- Patch and snapshot messages are writable if the document and the patch keep to the relay's
-- bounds.
use Rattle.std.proofs.Common.{◌≡◌, ℕ, suc, ◌+◌, ◌≤◌, List, [], ◌∷◌, true, Option, Some, None}
use Rattle.std.proofs.Common.{option_and_then, Result, Ok, Err, refl, ap, ◌∙◌, arith}
use Rattle.std.specs.List.{AllByRecursion}
use Rattle.std.specs.Result.{result_ok}
use Rattle.serde_json.specs.Data as seen
use Rattle.relay_tree.specs.Document.{Document, list, object, Items, no_items, item, Members}
use Rattle.relay_tree.specs.Document.{no_members, member, depth, items_depth, members_depth}
use Rattle.relay_tree.specs.Text.{data_of, items_data, members_data}
use Rattle.relay_pointer.specs.Path.{Path, at}
use Rattle.relay_patch.specs.Form.{ops_items, op_members}
use Rattle.relay_patch.specs.Sizes.{OpFits}
use Rattle.relay_patch.specs.declared.bounds.TheConstants.Bounds.{DOCUMENT}
use Rattle.relay_patch.specs.declared.limits.TheConstants.PatchLimits.{RELAYED}
use Rattle.relay_patch.specs.Walk.{walk}
use Rattle.relay_patch.specs.declared.fault.Cause.{Cause}
use Rattle.relay_patch.specs.declared.op.Op.{Op}
use Rattle.relay_patch.specs.declared.op.Op.TheVariants.{Add, Remove, Replace, Move, Copy, Test}
use Rattle.relay_patch.proofs.Depths.{walk_depth}
use Rattle.relay_patch.proofs.Walks.{at-walk}
use Rattle.relay_view.specs.View.{View, shown, slot_of, slots, view}
use Rattle.relay_view.specs.declared.slot.Slot.{Slot}
use Rattle.relay_view.proofs.Depths.{shown_depth}
use Rattle.relay_proto.specs.MessageRead.{is_slot, are_slots}
use Rattle.relay_proto.specs.Written.{IsCount, HasShortPaths, IsWritable}
use Rattle.relay_proto.specs.declared.message.Message.TheVariants as message

-- A text nests no more containers than its document is deep.

mutual
  nests : (d : Document) → seen.depth (data_of d) ≤ depth d
  nests (list ds) = omega (arith, items_nest ds)
  nests (object ms) = omega (arith, members_nest ms)
  nests _ = omega arith

  items_nest : (ds : Items) → seen.items_depth (items_data ds) ≤ items_depth ds
  items_nest no_items = omega arith
  items_nest (item d ds) = omega (arith, nests d, items_nest ds)

  members_nest : (ms : Members) → seen.members_depth (members_data ms) ≤ members_depth ms
  members_nest no_members = omega arith
  members_nest (member k d ms) = omega (arith, nests d, members_nest ms)

-- Patches.

short_paths : (m : ℕ) (ops : List Op) → AllByRecursion (OpFits RELAYED.tokens m) ops
    → AllByRecursion (HasShortPaths RELAYED.tokens) ops
short_paths m [] h = tt
short_paths m (Add path v ∷ ops) h = (h.0.0, short_paths m ops h.1)
short_paths m (Remove path ∷ ops) h = (h.0, short_paths m ops h.1)
short_paths m (Replace path v ∷ ops) h = (h.0.0, short_paths m ops h.1)
short_paths m (Move from path ∷ ops) h = (h.0, short_paths m ops h.1)
short_paths m (Copy from path ∷ ops) h = (h.0, short_paths m ops h.1)
short_paths m (Test path v ∷ ops) h = (h.0.0, short_paths m ops h.1)

op_nests : (m : ℕ) (o : Op) → OpFits RELAYED.tokens m o
    → seen.members_depth (members_data (op_members o)) ≤ m
op_nests m (Add path v) h = omega (arith, nests v, h.1)
op_nests m (Replace path v) h = omega (arith, nests v, h.1)
op_nests m (Test path v) h = omega (arith, nests v, h.1)
op_nests m _ h = omega arith

ops_nest : (m : ℕ) (ops : List Op) → AllByRecursion (OpFits RELAYED.tokens m) ops
    → seen.items_depth (items_data (ops_items ops)) ≤ suc m
ops_nest m [] h = omega arith
ops_nest m (o ∷ ops) h = omega (arith, op_nests m o h.0, ops_nest m ops h.1)

pub patch_is_writable : (rev : ℕ) (ops : List Op) → IsCount rev
    → AllByRecursion (OpFits RELAYED.tokens (DOCUMENT.depth + 1)) ops
    → IsWritable (message.Patch rev ops)
patch_is_writable rev ops count fits = (
  (count, short_paths (DOCUMENT.depth + 1) ops fits),
  omega (arith, ops_nest (DOCUMENT.depth + 1) ops fits),
)

-- Views.

slot_is_slot : (o : Option Document) → is_slot (slot_of o) ≡ true
slot_is_slot None = refl
slot_is_slot (Some v) = refl

are_slots_slots : (pointers : View) (d : Document) → are_slots (slots pointers d) ≡ true
are_slots_slots [] d = refl
are_slots_slots (s ∷ pointers) d =
    rw (slot_is_slot (option_and_then (shown s.kind) (at d s.pointer)), are_slots_slots pointers d)
    refl

slot_depth : (o : Option Document) (n : ℕ) → ((v : Document) → o ≡ Some v → depth v ≤ n)
    → depth (slot_of o) ≤ suc n
slot_depth None n h = omega arith
slot_depth (Some v) n h = omega (arith, h v refl)

part_depth : (q : Path) (d v : Document) → at d q ≡ Some v → depth v ≤ depth d
part_depth q d v h = go (walk d q) refl (at-walk q d ∙ h)
  where
    go : (r : Result Document Cause) → walk d q ≡ r → result_ok r ≡ Some v → depth v ≤ depth d
    go (Ok w) there same = let is : w ≡ v = cc in omega (arith, walk_depth q d w there, ap depth is)
    go (Err e) there same = absurd cc

shown_part_depth : (s : Slot) (d v : Document)
    → option_and_then (shown s.kind) (at d s.pointer) ≡ Some v → depth v ≤ depth d
shown_part_depth s d v h = go (at d s.pointer) refl h
  where
    go : (o : Option Document) → at d s.pointer ≡ o → option_and_then (shown s.kind) o ≡ Some v
        → depth v ≤ depth d
    go None there e = absurd cc
    go (Some w) there e = omega (arith, part_depth s.pointer d w there, shown_depth s.kind w v e)

slots_depth : (pointers : View) (d : Document) → items_depth (slots pointers d) ≤ suc (depth d)
slots_depth [] d = omega arith
slots_depth (s ∷ pointers) d =
    omega (
      arith,
      slot_depth (option_and_then (shown s.kind) (at d s.pointer)) (depth d) (shown_part_depth s d),
      slots_depth pointers d,
    )

pub snapshot_is_writable : (rev : ℕ) (pointers : View) (d : Document) → IsCount rev
    → depth d ≤ DOCUMENT.depth → IsWritable (message.Snapshot rev (view pointers d))
snapshot_is_writable rev pointers d count flat = (
  (count, are_slots_slots pointers d),
  omega (arith, nests (view pointers d), slots_depth pointers d, flat),
)

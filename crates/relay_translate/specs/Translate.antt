-- The operations that bring a view up to date, slot by slot.
use Rattle.std.specs.Prelude.{ℕ, suc, List, [], ◌∷◌, ◌++◌, length, drop, Bool, true, false, Option}
use Rattle.std.specs.Prelude.{option_map, if◌then◌else◌, flat_map, ◌≡◌, Ok}
use Rattle.std.specs.List.{list_any}
use Rattle.relay_tree.specs.Budget.{paid}
use Rattle.relay_tree.specs.declared.budget.Budget.{Budget}
use Rattle.relay_tree.specs.Document.{Document}
use Rattle.relay_pointer.specs.Index.{Token, index_text}
use Rattle.relay_pointer.specs.Path.{Path, is_prefix}
use Rattle.relay_patch.specs.declared.op.Op.{Op}
use Rattle.relay_patch.specs.declared.op.Op.TheVariants.{Add, Remove, Replace, Move, Copy, Test}
use Rattle.relay_patch.specs.Patch.{free}
use Rattle.relay_patch.specs.After.{after}
use Rattle.relay_patch.specs.declared.change.Change.{Change}
use Rattle.relay_patch.specs.Change.{Leads}
use Rattle.relay_patch.specs.Weight.{ops_weight}
use Rattle.relay_patch.specs.declared.change.Change.TheVariants as change
use Rattle.relay_view.specs.View.{View, slot, view}
use Rattle.relay_view.specs.declared.slot.Slot.{Slot}
use Rattle.relay_translate.specs.Touch.{Touch, Apart, Inside, Reset, touch_place, touch_slot}

abbrev pub is_reset : Touch → Bool
is_reset Apart = false
is_reset Inside = false
is_reset Reset = true

-- a move within the value stays a move; one that leaves it is a removal, and one that enters it an
-- insertion
abbrev pub move_op : Touch → Touch → Path → Path → Document → Op
move_op Inside Inside from to v = Move from to
move_op Inside Apart from to v = Remove from
move_op Inside Reset from to v = Remove from
move_op Apart b from to v = Add to v
move_op Reset b from to v = Add to v

-- the operation, with paths of the document, that a change inside the value at q becomes
abbrev pub op_of : Path → Change → Op
op_of q (change.Set path v) = Replace path v
op_of q (change.AddMember path v) = Add path v
op_of q (change.AddItem path v) = Add path v
op_of q (change.DropMember path) = Remove path
op_of q (change.DropItem path) = Remove path
op_of q (change.Move from to v) =
    move_op (touch_place from q) (touch_place to q) from.path to.path v
op_of q (change.Copy from to v) = if is_prefix q from then Copy from to.path else Add to.path v

-- the operation with f applied to each of its paths
abbrev pub with_paths : (Path → Path) → Op → Op
with_paths f (Add path v) = Add (f path) v
with_paths f (Remove path) = Remove (f path)
with_paths f (Replace path v) = Replace (f path) v
with_paths f (Move from path) = Move (f from) (f path)
with_paths f (Copy from path) = Copy (f from) (f path)
with_paths f (Test path v) = Test (f path) v

-- the token `0`, at which a slot shows its value
abbrev pub first : Token
first = 48 ∷ []

-- a path that begins with q becomes `/k/0` followed by its tokens after q
abbrev pub in_slot : ℕ → Path → Path → Path
in_slot k q path = index_text k ∷ first ∷ drop (length q) path

-- the operation with its document paths below q changed to paths in slot k of the view
abbrev pub in_view : ℕ → Path → Op → Op
in_view k q op = with_paths (in_slot k q) op

abbrev pub when_inside : Touch → Op → List Op
when_inside Apart op = []
when_inside Inside op = op ∷ []
when_inside Reset op = []

-- the operation on slot k that a change inside its value becomes; none for any other change
abbrev pub slot_op : ℕ → Slot → Change → List Op
slot_op k s c = when_inside (touch_slot c s) (in_view k s.pointer (op_of s.pointer c))

-- one replacement of the whole slot if some change is Reset, else one operation for each change
-- inside, in order
abbrev pub slot_ops : ℕ → Slot → List Change → Document → List Op
slot_ops k s changes now =
    if list_any (λ c. is_reset (touch_slot c s)) changes
    then Replace (index_text k ∷ []) (slot s now) ∷ [] else flat_map (slot_op k s) changes

-- the operations on all slots in order, the first of which is slot k
abbrev pub local_from : ℕ → List Change → Document → View → List Op
local_from k changes now [] = []
local_from k changes now (s ∷ pointers) =
    slot_ops k s changes now ++ local_from (suc k) changes now pointers

-- the operations that the changes, which led to the document now, become on a view
abbrev pub local : List Change → Document → View → List Op
local changes now pointers = local_from 0 changes now pointers

-- the operations if the budget pays for them, else None
abbrev pub afforded : Budget → List Op → Option (List Op)
afforded budget ops = option_map (λ _. ops) (paid (ops_weight ops) budget)

-- For every document from which the changes lead to the document now, the operations turn its view
-- into the view of now.
abbrev pub LeadsViews : List Change → Document → View → List Op → Type 0
LeadsViews changes now pointers ops = (d : Document) → Leads d changes now
    → after (view pointers d) ops free ≡ Ok (view pointers now)

-- The translation of every list of changes turns every view into the new one, as above.
abbrev pub IsTranslation : Type 0
IsTranslation = (changes : List Change) (now : Document) (pointers : View)
    → LeadsViews changes now pointers (local changes now pointers)

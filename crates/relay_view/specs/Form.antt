-- The view that a document reads as, or its first fault.
use Rattle.std.specs.Prelude.{ℕ, List, Bool, false, length, codes, Option, Some, None, Result, Ok}
use Rattle.std.specs.Prelude.{Err, nat_le, nat_lt, if◌then◌else◌}
use Rattle.relay_tree.specs.Document.{Document, text, list, object}
use Rattle.relay_tree.specs.Each.{each_from}
use Rattle.relay_tree.specs.Part.{items_length, object_member}
use Rattle.relay_pointer.specs.Path.{Path}
use Rattle.relay_pointer.specs.declared.reading.TheConstants.{MAX_TOKENS}
use Rattle.relay_pointer.specs.Spelling.{path_of_text}
use Rattle.relay_view.specs.View.{View, Slot, SlotKind, Value, Size}
use Rattle.relay_view.specs.declared.fault.ViewFault.{ViewFault}
use Rattle.relay_view.specs.declared.fault.ViewFault.TheVariants.{TooMany, Shape, Pointer}
use Rattle.relay_view.specs.declared.view.TheConstants.{MAX_SLOTS}

-- the slot at place k with this pointer, which has at most MAX_TOKENS tokens
abbrev pub slot_within : ℕ → SlotKind → Option Path → Result Slot ViewFault
slot_within k kind None = Err (Pointer k)
slot_within k kind (Some path) =
    if nat_le (length path) MAX_TOKENS then Ok (record { pointer = path; kind = kind })
    else Err (Pointer k)

-- the slot at place k whose pointer has this text
abbrev pub slot_spelled : ℕ → SlotKind → List ℕ → Result Slot ViewFault
slot_spelled k kind s = slot_within k kind (path_of_text s)

-- the slot at place k that shows a size, from its member `size`
abbrev pub size_slot : ℕ → Option Document → Result Slot ViewFault
size_slot k (Some (text s)) = slot_spelled k Size s
size_slot k _ = Err (Shape (Some k))

-- the slot that the element at place k reads as: the text of a pointer, or an object whose member
-- `size` is one
abbrev pub slot_at : ℕ → Document → Result Slot ViewFault
slot_at k (text s) = slot_spelled k Value s
slot_at k (object ms) = size_slot k (object_member (object ms) (codes "size"))
slot_at k _ = Err (Shape (Some k))

-- the view that a document reads as: a list of at most MAX_SLOTS slots
abbrev pub view_of : Document → Result View ViewFault
view_of (list ds) =
    if nat_lt MAX_SLOTS (items_length ds) then Err TooMany else each_from slot_at 0 ds
view_of _ = Err (Shape None)

-- a list of at most MAX_SLOTS elements, whatever they are
abbrev pub is_short_list : Document → Bool
is_short_list (list ds) = nat_le (items_length ds) MAX_SLOTS
is_short_list _ = false

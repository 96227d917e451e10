-- A view: for each of its slots, the value at a pointer, or the size of that value.
use Rattle.std.specs.Prelude.{ℕ, suc, ◌-◌, ◌^◌, min, pos, List, [], ◌∷◌, Option, Some, None}
use Rattle.std.specs.Prelude.{option_map, option_and_then}
use Rattle.relay_tree.specs.Document.{Document, whole, list, object, Items, no_items, item, Members}
use Rattle.relay_tree.specs.Document.{no_members, member}
use Rattle.relay_tree.specs.Part.{items_length}
use Rattle.relay_pointer.specs.Path.{at}
pub use Rattle.relay_view.specs.declared.slot.Slot.{Slot}
pub use Rattle.relay_view.specs.declared.slot.SlotKind.{SlotKind}
pub use Rattle.relay_view.specs.declared.slot.SlotKind.TheVariants.{Value, Size}

-- the slots that a client requests, in order
abbrev pub View : Type 0
View = List Slot

abbrev pub members_length : Members → ℕ
members_length no_members = 0
members_length (member k d ms) = suc (members_length ms)

-- the number of elements of a list or of members of an object; any other value has no size
abbrev pub size : Document → Option ℕ
size (list ds) = Some (items_length ds)
size (object ms) = Some (members_length ms)
size _ = None

-- a size as a document: n, or 2^63 - 1 if it is larger
abbrev pub counted : ℕ → Document
counted n = whole (pos (min n (2 ^ 63 - 1)))

-- what a slot of this kind shows of the value at its pointer, if anything
abbrev pub shown : SlotKind → Document → Option Document
shown Value v = Some v
shown Size v = option_map counted (size v)

-- `[v]` if there is something to show, else `[]`
abbrev pub slot_of : Option Document → Document
slot_of None = list no_items
slot_of (Some v) = list (item v no_items)

-- what a slot shows of a document
abbrev pub slot : Slot → Document → Document
slot s d = slot_of (option_and_then (shown s.kind) (at d s.pointer))

abbrev pub slots : View → Document → Items
slots [] d = no_items
slots (s ∷ pointers) d = item (slot s d) (slots pointers d)

abbrev pub view : View → Document → Document
view pointers d = list (slots pointers d)

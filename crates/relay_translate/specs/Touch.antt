-- The touch of a change on what a slot shows, decided by paths alone.
use Rattle.std.specs.Prelude.{ℕ, ◌+◌, ◌==◌, [], ◌∷◌, length, Bool, true, false, Option, Some, None}
use Rattle.std.specs.Prelude.{if◌then◌else◌, nat_le, bytes_eq}
use Rattle.relay_pointer.specs.Index.{Token, number_of}
use Rattle.relay_pointer.specs.Path.{Path}
use Rattle.relay_patch.specs.declared.change.Place.{Place}
use Rattle.relay_patch.specs.declared.change.Change.{Change}
use Rattle.relay_patch.specs.declared.change.Change.TheVariants as change
use Rattle.relay_view.specs.declared.slot.Slot.{Slot}
use Rattle.relay_view.specs.declared.slot.SlotKind.{SlotKind}
use Rattle.relay_view.specs.declared.slot.SlotKind.TheVariants.{Value, Size}
pub use Rattle.relay_translate.specs.declared.kind.Touch.{Touch}
pub use Rattle.relay_translate.specs.declared.kind.Touch.TheVariants.{Apart, Inside, Reset}

-- inserting or removing an element at the first index moves all elements from there on
abbrev pub shifts : Option ℕ → Option ℕ → Touch
shifts (Some i) (Some j) = if nat_le i j then Reset else Apart
shifts None j = Apart
shifts (Some i) None = Apart

-- t is the last token of a place, which is an item or not; b is the pointer's token at the same
-- depth
abbrev pub touch_last : Bool → Token → Token → Touch
touch_last true t b = shifts (number_of t) (number_of b)
touch_last false t b = if bytes_eq t b then Reset else Apart

-- a place with the tokens t, path: the pointer ends above it, reaches its last token, or has the
-- same or another token as t
abbrev pub touch_below : Bool → Token → Path → Path → Touch
touch_below is_item t path [] = Inside
touch_below is_item t [] (b ∷ q) = touch_last is_item t b
touch_below is_item t (u ∷ path) (b ∷ q) =
    if bytes_eq t b then touch_below is_item u path q else Apart

-- a change at a path, which is that of an item or not; at the root it resets every pointer
abbrev pub touch_path : Bool → Path → Path → Touch
touch_path is_item [] q = Reset
touch_path is_item (t ∷ path) q = touch_below is_item t path q

abbrev pub touch_place : Place → Path → Touch
touch_place place q = touch_path place.item place.path q

-- Reset if either is, else Inside if either is, else Apart
abbrev pub touch_either : Touch → Touch → Touch
touch_either Apart b = b
touch_either Inside Apart = Inside
touch_either Inside Inside = Inside
touch_either Inside Reset = Reset
touch_either Reset b = Reset

-- The touch of a change on the value at the pointer q: a move is judged as a removal and an
-- insertion, a copy at its target.
abbrev pub touch_value : Change → Path → Touch
touch_value (change.Set path v) q = touch_path false path q
touch_value (change.AddMember path v) q = touch_path false path q
touch_value (change.AddItem path v) q = touch_path true path q
touch_value (change.DropMember path) q = touch_path false path q
touch_value (change.DropItem path) q = touch_path true path q
touch_value (change.Move from to v) q = touch_either (touch_place from q) (touch_place to q)
touch_value (change.Copy from to v) q = touch_place to q

-- The touch of a change on the size of that value.

-- a place within the value: Reset if one of the value's own parts is added or removed there, Apart
-- below its parts
abbrev pub part_touch : Path → Path → Touch
part_touch path q = if length path == length q + 1 then Reset else Apart

-- the same of any place
abbrev pub size_touch : Path → Path → Touch → Touch
size_touch path q Apart = Apart
size_touch path q Inside = part_touch path q
size_touch path q Reset = Reset

-- a replacement within the value leaves its size
abbrev pub exchange_touch : Touch → Touch
exchange_touch Apart = Apart
exchange_touch Inside = Apart
exchange_touch Reset = Reset

abbrev pub touch_place_size : Place → Path → Touch
touch_place_size place q = size_touch place.path q (touch_place place q)

abbrev pub touch_size : Change → Path → Touch
touch_size (change.Set path v) q = exchange_touch (touch_path false path q)
touch_size (change.AddMember path v) q = size_touch path q (touch_path false path q)
touch_size (change.AddItem path v) q = size_touch path q (touch_path true path q)
touch_size (change.DropMember path) q = size_touch path q (touch_path false path q)
touch_size (change.DropItem path) q = size_touch path q (touch_path true path q)
touch_size (change.Move from to v) q =
    touch_either (touch_place_size from q) (touch_place_size to q)
touch_size (change.Copy from to v) q = touch_place_size to q

-- The touch of a change on the contents of a slot with this pointer and kind.
abbrev pub touch : Change → Path → SlotKind → Touch
touch c q Value = touch_value c q
touch c q Size = touch_size c q

abbrev pub touch_slot : Change → Slot → Touch
touch_slot c s = touch c s.pointer s.kind

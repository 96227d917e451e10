-- The touch of a place, as a table whose first matching line decides (docs/PROTOCOL.md, "What a
-- change means to a slot").
use Rattle.std.specs.Prelude.{◌≡◌, ℕ, [], ◌∷◌, length, drop, Bool, true, false, Option, None}
use Rattle.std.specs.Prelude.{if◌then◌else◌}
use Rattle.relay_pointer.specs.Index.{Token, number_of}
use Rattle.relay_pointer.specs.Path.{Path, is_prefix, is_proper_prefix}
use Rattle.relay_patch.specs.declared.change.Place.{Place}
use Rattle.relay_patch.specs.Place.{parent, last}
use Rattle.relay_patch.specs.declared.change.Change.{Change}
use Rattle.relay_patch.specs.declared.change.Change.TheVariants as change
use Rattle.relay_view.specs.declared.slot.SlotKind.{SlotKind}
use Rattle.relay_view.specs.declared.slot.SlotKind.TheVariants.{Value, Size}
use Rattle.relay_translate.specs.Touch.{Touch, Apart, Inside, Reset, shifts, touch_place}
use Rattle.relay_translate.specs.Touch.{touch_either, part_touch}

-- the index that the first token spells, if any
abbrev pub next_index : Path → Option ℕ
next_index [] = None
next_index (b ∷ q) = number_of b

-- for an item: Reset if the pointer continues from the list with the item's index or a larger one
abbrev pub item_touch : Path → Token → Path → Touch
item_touch before t q =
    if is_prefix before q then shifts (number_of t) (next_index (drop (length before) q)) else Apart

-- q is no proper prefix of the place. An item: as `item_touch`. Otherwise Reset if the place is q
-- or a prefix of q
abbrev pub not_inside : Bool → Token → Path → Path → Touch
not_inside true t path q = item_touch (parent t path) (last t path) q
not_inside false t path q = if is_prefix (t ∷ path) q then Reset else Apart

-- the first line: if the pointer is a proper prefix of the place, something within the value
-- changed
abbrev pub table_at : Touch → Bool → Path → Path → Touch
table_at within is_item [] q = Reset
table_at within is_item (t ∷ path) q =
    if is_proper_prefix q (t ∷ path) then within else not_inside is_item t path q

-- For every place and pointer, the touch on a value is the one in the table.
abbrev pub IsTable : Type 0
IsTable = (place : Place) (q : Path) → touch_place place q ≡ table_at Inside place.item place.path q

abbrev pub value_by_table : Place → Path → Touch
value_by_table place q = table_at Inside place.item place.path q

-- the touch of a change on a value, by the table
abbrev pub touch_value_by_table : Change → Path → Touch
touch_value_by_table (change.Set path v) q = table_at Inside false path q
touch_value_by_table (change.AddMember path v) q = table_at Inside false path q
touch_value_by_table (change.AddItem path v) q = table_at Inside true path q
touch_value_by_table (change.DropMember path) q = table_at Inside false path q
touch_value_by_table (change.DropItem path) q = table_at Inside true path q
touch_value_by_table (change.Move from to v) q =
    touch_either (value_by_table from q) (value_by_table to q)
touch_value_by_table (change.Copy from to v) q = value_by_table to q

-- for a size, a change within the value counts only if it adds or removes one of the value's own
-- parts
abbrev pub size_by_table : Place → Path → Touch
size_by_table place q = table_at (part_touch place.path q) place.item place.path q

abbrev pub touch_size_by_table : Change → Path → Touch
touch_size_by_table (change.Set path v) q = table_at Apart false path q
touch_size_by_table (change.AddMember path v) q = table_at (part_touch path q) false path q
touch_size_by_table (change.AddItem path v) q = table_at (part_touch path q) true path q
touch_size_by_table (change.DropMember path) q = table_at (part_touch path q) false path q
touch_size_by_table (change.DropItem path) q = table_at (part_touch path q) true path q
touch_size_by_table (change.Move from to v) q =
    touch_either (size_by_table from q) (size_by_table to q)
touch_size_by_table (change.Copy from to v) q = size_by_table to q

-- the touch of a change on what a slot shows, by the table
abbrev pub touch_by_table : Change → Path → SlotKind → Touch
touch_by_table c q Value = touch_value_by_table c q
touch_by_table c q Size = touch_size_by_table c q

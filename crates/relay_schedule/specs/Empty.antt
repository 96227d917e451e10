-- Since when each room is empty: for each, by its index, the second in which a session last left.
use Rattle.std.specs.Prelude.{ℕ, List, slice_index, slice_set}
use Rattle.relay_schedule.specs.Rooms as rooms

-- a room that is admitted counts as empty since the beginning
abbrev pub admitting : ℕ → List ℕ → List ℕ
admitting index left = rooms.admitting index 0 left

-- a session left a room in this second, if the room is admitted
abbrev pub with_left : ℕ → ℕ → List ℕ → List ℕ
with_left index second left = slice_set left index second

-- the second in which a session last left a room; 0 if none did, or the room is not admitted
abbrev pub since : ℕ → List ℕ → ℕ
since index left = slice_index left index

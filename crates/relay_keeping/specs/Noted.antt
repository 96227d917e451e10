-- The rooms that a run keeps as it notes them, by their indexes in the hub.
use Rattle.std.specs.Prelude.{◌≡◌, ℕ, Bool, false, not, bytes_eq, List, map, string_bytes}
use Rattle.std.specs.Prelude.{Option, Some, None, option_map, option_and_then, slice_get}
use Rattle.std.specs.Prelude.{if◌then◌else◌}
use Rattle.relay_keeping.specs.declared.kept_room.KeptRoom.{KeptRoom}
use Rattle.relay_keeping.specs.declared.kept_rooms.KeptRooms.{KeptRooms}

-- a room's name, and the revision to which its last text leads
abbrev pub NotedRoom : Type 0
NotedRoom = List ℕ × ℕ

abbrev pub Noted : Type 0
Noted = List (Option NotedRoom)

abbrev pub noted_room : KeptRoom → NotedRoom
noted_room kept = (string_bytes kept.name, kept.texts.revision)

abbrev pub noted_in : KeptRooms → Noted
noted_in kept = map (option_map noted_room) kept.rooms.items

-- the room that is noted at an index
abbrev pub noted_at : Noted → ℕ → Option NotedRoom
noted_at noted index = option_and_then (λ room. room) (slice_get noted index)

-- the revision that is noted under a name
abbrev pub revision_of : List ℕ → Option NotedRoom → Option ℕ
revision_of name None = None
revision_of name (Some noted) = if bytes_eq noted.0 name then Some noted.1 else None

-- a room of another name is noted
abbrev pub is_other : List ℕ → Option NotedRoom → Bool
is_other name None = false
is_other name (Some noted) = not (bytes_eq noted.0 name)

-- the same is noted at each index, and the same floor
pub record IsSame (old new : KeptRooms) : Type 0 where
  pub rooms : (index : ℕ) → noted_at (noted_in new) index ≡ noted_at (noted_in old) index
  pub floor : new.floor ≡ old.floor

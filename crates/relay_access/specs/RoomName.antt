-- The names of rooms.
use Rattle.std.specs.Prelude.{ℕ, List, length, Bool, ◌&&◌, ◌||◌, ◌==◌, nat_le}
use Rattle.std.specs.List.{list_all}
use Rattle.std.specs.Char.{is_ascii_alphanumeric}
use Rattle.relay_access.specs.declared.room_name.TheConstants.{MAX_NAME}

-- an ASCII letter or digit, `-` or `_`
abbrev pub is_room_byte : ℕ → Bool
is_room_byte b = is_ascii_alphanumeric b || b == 45 || b == 95

-- 1 to MAX_NAME such bytes
abbrev pub is_room_name : List ℕ → Bool
is_room_name name =
    nat_le 1 (length name) && nat_le (length name) MAX_NAME && list_all is_room_byte name

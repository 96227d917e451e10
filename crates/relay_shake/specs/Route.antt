-- The targets of rooms.
use Rattle.std.specs.Prelude.{ℕ, Bool, false, not, ◌==◌, ◌-◌, if◌then◌else◌, List, [], ◌∷◌, length}
use Rattle.std.specs.Prelude.{take, codes, nat_eq, Option, Some, None, option_map, option_and_then}
use Rattle.std.specs.List.{list_all, ends_with}
use Rattle.std.specs.Option.{option_or}
use Rattle.relay_access.specs.RoomName.{is_room_name}
use Rattle.relay_access.specs.declared.access.Access.{Access}
use Rattle.relay_access.specs.declared.access.Access.TheVariants.{ReadWrite, ReadOnly}
use Rattle.relay_http_head.specs.Head.{kept}
use Rattle.relay_shake.specs.declared.route.Asked.{Asked}

-- the rest of the text after a prefix, if it begins with it
abbrev pub behind : List ℕ → List ℕ → Option (List ℕ)
behind [] text = Some text
behind (x ∷ prefix) [] = None
behind (x ∷ prefix) (b ∷ text) = if x == b then behind prefix text else None

-- at least one byte, and no slash
abbrev pub is_segment : List ℕ → Bool
is_segment [] = false
is_segment (b ∷ bs) = list_all (λ x. not (x == 47)) (b ∷ bs)

-- the part of a target that matches `{room}` in the route `/rooms/{room}`
abbrev pub routed : List ℕ → Option (List ℕ)
routed target = kept is_segment (behind (codes "/rooms/") target)

-- the room of a target `/rooms/NAME`: that part, if it is a room name
abbrev pub room_of : List ℕ → Option (List ℕ)
room_of target = kept is_room_name (routed target)

-- the text before a suffix, if it ends with it
abbrev pub before : List ℕ → List ℕ → Option (List ℕ)
before suffix text =
    if ends_with nat_eq text suffix then Some (take (length text - length suffix) text) else None

-- a room, and what a session may do in it
abbrev pub with_access : Access → Option (List ℕ) → Option (List ℕ × Access)
with_access access room = option_map (λ name. (name, access)) room

-- The request of a target: to read and write the room of `/rooms/NAME`, or only to read that of
-- `/rooms/NAME/watch`.
abbrev pub asked_of : List ℕ → Option (List ℕ × Access)
asked_of target =
    option_or (with_access ReadWrite (room_of target))
    (with_access ReadOnly (option_and_then room_of (before (codes "/watch") target)))

-- the same of what the code found
abbrev pub asked_by : Asked → List ℕ × Access
asked_by asked = (asked.room.now, asked.access)

-- The changes that a later one replaces. What is kept after that one is the same without them.
use Rattle.std.specs.Prelude.{ℕ, Bool, false, bytes_eq, nat_eq, nat_le, List}
use Rattle.relay_store.specs.declared.change.Change.{Change}
use Rattle.relay_store.specs.declared.change.Change.TheVariants.{Begin, Edit, End, RaiseFloor}
use Rattle.relay_store.specs.declared.change.Change.TheVariants.{LeaveWill, DropWill}

abbrev pub is_of_room : List ℕ → Change (List ℕ) → Bool
is_of_room name (Begin room revision text) = bytes_eq name room
is_of_room name (Edit room revision text) = bytes_eq name room
is_of_room name (End room) = bytes_eq name room
is_of_room name _ = false

abbrev pub is_floor_up_to : ℕ → Change (List ℕ) → Bool
is_floor_up_to floor (RaiseFloor revision) = nat_le revision floor
is_floor_up_to floor _ = false

abbrev pub is_of_session : ℕ → Change (List ℕ) → Bool
is_of_session session (LeaveWill other room text) = nat_eq session other
is_of_session session (DropWill other) = nat_eq session other
is_of_session session _ = false

-- a record that begins, and the end of a room, replace all of that room before; a floor the lower
-- ones; a will, and its end, all of that session before. An edit replaces nothing
abbrev pub is_replaced : (later earlier : Change (List ℕ)) → Bool
is_replaced (Begin name revision text) earlier = is_of_room name earlier
is_replaced (Edit name revision text) earlier = false
is_replaced (End name) earlier = is_of_room name earlier
is_replaced (RaiseFloor floor) earlier = is_floor_up_to floor earlier
is_replaced (LeaveWill session room text) earlier = is_of_session session earlier
is_replaced (DropWill session) earlier = is_of_session session earlier

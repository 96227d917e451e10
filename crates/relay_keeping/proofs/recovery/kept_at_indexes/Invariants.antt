use Rattle.std.proofs.Common.{◌≡◌, ◌<◌, ◌≤◌, ℕ, List, Some, length, map, slice_get}
use Rattle.std.specs.Option.{option_map}
use Rattle.relay_hub.specs.State.{RoomSessions}
use Rattle.relay_keeping.specs.Begun.{client_named, noted_client}
use Rattle.relay_keeping.specs.Noted.{noted_at, noted_room}
use Rattle.relay_keeping.specs.Trailing.{Once}
use Rattle.relay_keeping.proofs.recovery.kept_at_indexes.Given as goal

-- the rooms so far are noted, and the clients of the others are left
abbrev pub invariant-loop-index : goal.invariant-loop-index
invariant-loop-index l = record {
  count : length l.rooms.items ≡ l.index;
  within : l.index ≤ length l.hub.rooms;
  rooms : Once l.hub.rooms → (i : ℕ) (room : List ℕ × RoomSessions) → i < l.index
      → slice_get l.hub.rooms i ≡ Some room
      → noted_at (map (option_map noted_room) l.rooms.items) i
      ≡ noted_client room.0 (client_named room.0 l.fn.clients.entries);
  left : Once l.hub.rooms → (i : ℕ) (room : List ℕ × RoomSessions) → l.index ≤ i
      → slice_get l.hub.rooms i ≡ Some room
      → client_named room.0 l.clients.entries ≡ client_named room.0 l.fn.clients.entries;
}

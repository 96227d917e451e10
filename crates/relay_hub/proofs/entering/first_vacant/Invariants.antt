use Rattle.std.proofs.Common.{◌≡◌, ◌<◌, ℕ, List, Some, false, slice_get}
use Rattle.relay_hub.specs.Representation.{rooms_of}
use Rattle.relay_hub.specs.State.{RoomSessions, is_evictable}
use Rattle.relay_hub.proofs.entering.first_vacant.Given as goal

abbrev pub invariant-loop-index : goal.invariant-loop-index
invariant-loop-index l =
    (p : ℕ) (room : List ℕ × RoomSessions) → p < l.index
    → slice_get (rooms_of l.rooms.entries) p ≡ Some room → is_evictable room.1 ≡ false

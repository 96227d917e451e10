-- A store that trails a hub: what it keeps of each room is an earlier revision.
use Rattle.std.specs.Prelude.{◌≡◌, ◌<◌, ◌≤◌, ℕ, min, length, List, Some, None, slice_get}
use Rattle.relay_hub.specs.Log.{Log, documents}
use Rattle.relay_hub.specs.Stands.{HoldsRevision}
use Rattle.relay_hub.specs.State.{RoomSessions, State}
use Rattle.relay_limits.specs.declared.TheConstants.{MAX_COUNT}
use Rattle.relay_room.specs.Room as room
use Rattle.relay_store.specs.Kept.{Kept, Room as KeptRoom, revision}
use Rattle.relay_keeping.specs.Keeper.{Keeper}
use Rattle.relay_keeping.specs.Mirrored.{client_of, kept_named, whole_view}
use Rattle.relay_keeping.specs.Noted.{Noted, noted_at}

-- no two rooms have the same name
abbrev pub Once : List (List ℕ × RoomSessions) → Type 0
Once rooms = (i j : ℕ) (r s : List ℕ × RoomSessions) → slice_get rooms i ≡ Some r
    → slice_get rooms j ≡ Some s → r.0 ≡ s.0 → i ≡ j

-- the room of that name is kept, at that revision
pub record KeepsAt (kept : Kept) (name : List ℕ) (rev : ℕ) : Type 0 where
  pub room : KeptRoom
  pub named : kept_named name kept.rooms ≡ Some room
  pub at : revision room ≡ rev

-- the room of that name is noted, at that revision, at the index of a room of the hub
pub record IsNoted (noted : Noted) (hub : State) (name : List ℕ) (rev : ℕ) : Type 0 where
  pub index : ℕ
  pub there : noted_at noted index ≡ Some (name, rev)
  pub within : index < length hub.rooms

-- what is kept is what is noted, and is behind a hub that stands for this log
pub record Trails (E : Log) (store : Kept) (noting : Noted) (least : ℕ) (hub : State) : Type 0 where
  -- the client of a room that is kept sees a document that a room of that name had, whole
  pub clients : (name : List ℕ) (room : KeptRoom) → kept_named name store.rooms ≡ Some room
      → HoldsRevision (documents E name) whole_view (revision room) (client_of room)
  pub kept : (index : ℕ) (name : List ℕ) (rev : ℕ) → noted_at noting index ≡ Some (name, rev)
      → KeepsAt store name rev
  pub noted : (name : List ℕ) (room : KeptRoom) → kept_named name store.rooms ≡ Some room
      → IsNoted noting hub name (revision room)
  -- no room is noted twice
  pub once : (i j : ℕ) (name : List ℕ) (r s : ℕ) → noted_at noting i ≡ Some (name, r)
      → noted_at noting j ≡ Some (name, s) → i ≡ j
  pub floor : least ≡ store.floor
  pub behind : min store.floor MAX_COUNT ≤ hub.floor

-- each room of the hub is noted at its index, at its revision, and nothing else is noted
pub record NotesAll (noting : Noted) (hub : State) : Type 0 where
  pub rooms : (index : ℕ) (there : List ℕ × RoomSessions)
      → slice_get hub.rooms index ≡ Some there
      → noted_at noting index ≡ Some (there.0, room.revision there.1.room)
  pub beyond : (index : ℕ) → length hub.rooms ≤ index → noted_at noting index ≡ None

-- a store that keeps rooms, and what is noted of it, are behind a hub that stands for this log
abbrev pub IsBehind : {K : Type 0} → (K → Kept) → Log → Keeper K → State → Type 0
IsBehind kept E keeper hub = Trails E (kept keeper.store) keeper.noted keeper.floor hub

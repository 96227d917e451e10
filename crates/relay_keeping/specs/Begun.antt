-- The rooms of a hub as they begin from the clients of what is kept, one after another.
use Rattle.std.specs.Prelude.{◌≡◌, ⊤, ℕ, ◌<◌, bytes_eq, length, List, [], ◌∷◌, ◌++◌}
use Rattle.std.specs.Prelude.{Option, Some, None, String, string_bytes, map, option_map, slice_get}
use Rattle.std.specs.Global.{Vec}
use Rattle.std.specs.List.{AllByRecursion}
use Rattle.std.specs.Map.{lookup}
use Rattle.std.specs.declared.alloc.Global.{Global}
use Rattle.relay_hub.specs.State.{RoomSessions, room_sessions, State, index_named}
use Rattle.relay_hub.specs.Summary.{room_named}
use Rattle.relay_room.specs.Room.{State as Room, revision}
use Rattle.relay_keeping.specs.Mirrored.{seen_whole}
use Rattle.relay_keeping.specs.Noted.{NotedRoom, noted_at, noted_room}
use Rattle.relay_keeping.specs.declared.client.Client.{Client}
use Rattle.relay_keeping.specs.declared.kept_room.KeptRoom.{KeptRoom}

-- a room of that name would begin behind the others: there is none yet, and there may be one more
pub record HasPlace (name : List ℕ) (hub : State) : Type 0 where
  pub absent : index_named name hub.rooms ≡ None
  pub space : length hub.rooms < hub.config.rooms
  pub wills : hub.wills ≡ []

-- one room more, in which nobody is
pub record AddsRoom (name : List ℕ) (made : Room) (old new : State) : Type 0 where
  pub rooms : new.rooms ≡ old.rooms ++ (name, room_sessions made []) ∷ []
  pub config : new.config ≡ old.config
  pub floor : new.floor ≡ old.floor
  pub wills : new.wills ≡ old.wills

-- the client holds the room's revision, and sees its document whole
abbrev pub Sees : Client → Room → Type 0
Sees client made = client.follower ≡ Some (revision made, seen_whole made.document)

-- the room of a client begins
pub record BeginsRoomOf (client : Client) (name : List ℕ) (old new : State) : Type 0 where
  pub made : Room
  pub adds : AddsRoom name made old new
  pub sees : Sees client made
  pub held : made.history.changes ≡ []

-- nobody is in the room, and no change is held
abbrev pub IsBare : List ℕ × RoomSessions → Type 0
IsBare room = (room.1.sessions ≡ []) × (room.1.room.history.changes ≡ [])

-- of one name, there are a client and the room that it sees, or neither
abbrev pub HasRoom : Option Client → Option (List ℕ × RoomSessions) → Type 0
HasRoom (Some client) (Some made) = Sees client made.1.room
HasRoom None None = ⊤
HasRoom (Some client) None = ⊥
HasRoom None (Some made) = ⊥

-- the client of a name
abbrev pub client_named : List ℕ → List (String Global × Client) → Option Client
client_named name clients = lookup (λ key. bytes_eq name (string_bytes key)) clients

-- the hub has the rooms of these clients, no others, and nothing besides
pub record AreBegun (clients : List (String Global × Client)) (hub : State) : Type 0 where
  pub rooms : (name : List ℕ) → HasRoom (client_named name clients) (room_named name hub.rooms)
  pub bare : AllByRecursion IsBare hub.rooms
  pub count : length hub.rooms ≡ length clients
  pub floor : hub.floor ≡ 0
  pub wills : hub.wills ≡ []

-- what is noted of the room of a name that has this client
abbrev pub noted_client : List ℕ → Option Client → Option NotedRoom
noted_client name client = option_map (λ (c : Client). (name, c.texts.revision)) client

-- of each of these rooms, at its index, is noted what its client holds, and nothing else is noted
pub record AreNotedFrom (clients : List (String Global × Client))
    (rooms : List (List ℕ × RoomSessions)) (kept : Vec (Option KeptRoom)) : Type 0 where
  pub rooms_at : (index : ℕ) (room : List ℕ × RoomSessions) → slice_get rooms index ≡ Some room
      → noted_at (map (option_map noted_room) kept.items) index
      ≡ noted_client room.0 (client_named room.0 clients)
  pub count : length kept.items ≡ length rooms

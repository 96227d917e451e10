-- The hub that the texts of a store make: it has the rooms that are kept, with the documents and
-- the revisions to which their texts lead.
use Rattle.std.specs.Prelude.{◌≡◌, ⊤, ℕ, min, bytes_eq, List, [], ◌∷◌, Option, Some, None, find}
use Rattle.std.specs.Option.{unwrap_or}
use Rattle.relay_follow.specs.Hearing.{told}
use Rattle.relay_hub.specs.State.{RoomSessions, State}
use Rattle.relay_hub.specs.Summary.{room_named}
use Rattle.relay_limits.specs.declared.TheConstants.{MAX_COUNT}
use Rattle.relay_proto.specs.Client.{Client, nothing, holds, lost}
use Rattle.relay_room.specs.Room as room
use Rattle.relay_store.specs.Kept.{Kept, Patch, Room as KeptRoom, revision}
use Rattle.relay_tree.specs.Document.{Document}
use Rattle.relay_view.specs.View.{View, view}
use Rattle.relay_view.specs.declared.slot.SlotKind.TheVariants.{Value}

-- a client that watches a whole document, once it heard a text; lost, if that is no message
abbrev pub heard : Client → List ℕ → Client
heard client text = unwrap_or (told client text) lost

-- the same once it heard these patches, the first of them first
abbrev pub heard_all : Client → List Patch → Client
heard_all client [] = client
heard_all client (patch ∷ patches) = heard_all (heard client patch.text) patches

-- a client that heard all texts that are kept of a room
abbrev pub client_of : KeptRoom → Client
client_of kept = heard_all (heard nothing kept.snapshot) kept.edits

-- the view of a whole document: its one slot shows the value at the root
abbrev pub whole_view : View
whole_view = record { pointer = []; kind = Value } ∷ []

-- a document as a client sees it that watches the whole of it
abbrev pub seen_whole : Document → Document
seen_whole d = view whole_view d

-- the texts that are kept of a room make its document, and lead to its revision
pub record Makes (kept : KeptRoom) (made : room.State) : Type 0 where
  pub client : client_of kept ≡ holds (room.revision made) (seen_whole made.document)
  pub revision : revision kept ≡ room.revision made

-- the room of a name among those that are kept
abbrev pub kept_named : List ℕ → List KeptRoom → Option KeptRoom
kept_named name rooms = find (λ room. bytes_eq name room.name) rooms

-- of one name, a room is kept and the hub has the room that its texts make, or neither
abbrev pub IsKept : Option KeptRoom → Option (List ℕ × RoomSessions) → Type 0
IsKept (Some kept) (Some made) = Makes kept made.1.room
IsKept None None = ⊤
IsKept (Some kept) None = ⊥
IsKept None (Some made) = ⊥

-- the rooms of a hub are exactly those that are kept, and so is its floor, as far as one may be
pub record Mirrors (kept : Kept) (hub : State) : Type 0 where
  pub rooms : (name : List ℕ) → IsKept (kept_named name kept.rooms) (room_named name hub.rooms)
  pub floor : hub.floor ≡ min kept.floor MAX_COUNT

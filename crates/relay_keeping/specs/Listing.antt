-- The rooms that a store keeps, as a list by name, and the record with which a room begins.
use Rattle.std.specs.Prelude.{◌≡◌, ⊤, ℕ, List, [], ◌∷◌, Option, Some, None, bytes_eq, map}
use Rattle.std.specs.Prelude.{String, if◌then◌else◌, string_bytes}
use Rattle.std.specs.List.Sorted.{IsStrictlySortedBy}
use Rattle.std.specs.Ordering.{nat_cmp}
use Rattle.std.specs.Cmp.Lexicographic.{slice_cmp}
use Rattle.std.specs.declared.alloc.Global.{Global}
use Rattle.relay_proto.specs.Client.{holds}
use Rattle.relay_proto.specs.Message.{snapshot_message}
use Rattle.relay_store.specs.Kept.{Kept, Room as KeptRoom, revision}
use Rattle.relay_tree.specs.Document.{Document}
use Rattle.relay_tree.specs.Text.{text_of}
use Rattle.relay_keeping.specs.Mirrored.{client_of, kept_named, seen_whole}
use Rattle.relay_keeping.specs.declared.client.Client.{Client}
use Rattle.relay_keeping.specs.declared.listing.ListedRoom.{ListedRoom}
use Rattle.relay_keeping.specs.declared.listing.Listing.{Listing}

-- the first of these rooms that has this name
abbrev pub named_in : List ℕ → List ListedRoom → Option ListedRoom
named_in name [] = None
named_in name (room ∷ rooms) =
    if bytes_eq name (string_bytes room.name) then Some room else named_in name rooms

-- the room has this name
abbrev pub IsNamed : List ℕ → Listing → ListedRoom → Type 0
IsNamed name listing room = named_in name listing.rooms.items ≡ Some room

-- ---- what is kept, as a list

-- the texts that are kept of a room make this document, and lead to this revision
pub record IsMadeOf (kept : KeptRoom) (room : ListedRoom) : Type 0 where
  pub client : client_of kept ≡ holds room.revision (seen_whole room.document)
  pub revision : revision kept ≡ room.revision

-- of one name, a room is kept and listed as its texts make it, or neither
abbrev pub IsListed : Option KeptRoom → Option ListedRoom → Type 0
IsListed (Some kept) (Some room) = IsMadeOf kept room
IsListed None None = ⊤
IsListed (Some kept) None = ⊥
IsListed None (Some room) = ⊥

-- the names of these rooms
abbrev pub names_of : List ListedRoom → List (List ℕ)
names_of = map (λ room. string_bytes room.name)

-- the rooms that are kept, each once and no others, by the bytes of their names, and the floor
pub record Lists (kept : Kept) (listing : Listing) : Type 0 where
  pub rooms : (name : List ℕ)
      → IsListed (kept_named name kept.rooms) (named_in name listing.rooms.items)
  pub by_name : IsStrictlySortedBy (slice_cmp nat_cmp) (names_of listing.rooms.items)
  pub floor : listing.floor ≡ kept.floor

-- a room as its client holds it: its name, and the revision and the view
abbrev pub Held : Type 0
Held = List ℕ × Option (ℕ × Document)

-- a client, by the name of its room
abbrev pub held : String Global × Client → Held
held entry = (string_bytes entry.0, entry.1.follower)

-- the same of a room that is listed
abbrev pub shown : ListedRoom → Held
shown room = (string_bytes room.name, Some (room.revision, seen_whole room.document))

-- ---- the record of a room

-- the text of the record of a document
abbrev pub record_text : ℕ → Document → List ℕ
record_text revision document = text_of (snapshot_message revision (seen_whole document))

-- The clients of the rooms that are kept, as the code has them.
use Rattle.std.specs.Prelude.{◌≡◌, ⊤, ℕ, List, [], Option, Some, None, option_map}
use Rattle.std.specs.HashMap.{get_by_text}
use Rattle.relay_follow.specs.Hearing.{as_client}
use Rattle.relay_store.specs.Kept.{Kept, Patch, Room as KeptRoom, revision}
use Rattle.relay_keeping.specs.Mirrored.{client_of, kept_named}
use Rattle.relay_keeping.specs.declared.client.Client.{Client}
use Rattle.relay_keeping.specs.declared.clients.Clients.{Clients}

abbrev pub patch_of : ℕ → List ℕ → Patch
patch_of revision text = record { revision = revision; text = text }

-- a room's record, with no patch yet
abbrev pub record_of : List ℕ → ℕ → List ℕ → KeptRoom
record_of name begins snapshot =
    record { name = name; begins = begins; snapshot = snapshot; edits = [] }

-- the client heard what is kept of a room, and is at its revision
pub record IsClientOf (kept : KeptRoom) (client : Client) : Type 0 where
  pub heard : as_client client.follower ≡ client_of kept
  pub at : option_map (λ held. held.0) client.follower ≡ Some (revision kept)
  pub noted : client.texts.revision ≡ revision kept

-- of one name, a room is kept and has its client, or neither
abbrev pub HasClient : Option KeptRoom → Option Client → Type 0
HasClient (Some kept) (Some client) = IsClientOf kept client
HasClient None None = ⊤
HasClient (Some kept) None = ⊥
HasClient None (Some client) = ⊥

-- each room that is kept has its client, no other is there, and the floor is the one that is kept
pub record AreClientsOf (kept : Kept) (clients : Clients) : Type 0 where
  pub rooms : (name : List ℕ)
      → HasClient (kept_named name kept.rooms) (get_by_text clients.rooms name)
  pub floor : clients.floor ≡ kept.floor

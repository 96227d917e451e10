-- A hub that mirrors what is kept, once the rooms of all clients have begun.
use Rattle.std.proofs.Common.{◌≡◌, ◌∙◌, ℕ, max, min, List, Option, Some, None, arith, ap, subst}
use Rattle.std.proofs.Common.{map, slice_get, sym}
use Rattle.std.specs.Option.{option_and_then, option_map}
use Rattle.std.specs.Global.{Vec}
use Rattle.relay_follow.specs.Hearing.{as_client}
use Rattle.relay_hub.specs.State.{RoomSessions, State}
use Rattle.relay_hub.specs.Step.{raised_floor, with_floor}
use Rattle.relay_hub.specs.Log.{Log}
use Rattle.relay_hub.specs.Stands.{StandsFor}
use Rattle.relay_hub.specs.Summary.{room_named}
use Rattle.relay_hub.specs.declared.config.HubConfig.{HubConfig}
use Rattle.relay_room.specs.Room.{revision}
use Rattle.relay_limits.specs.declared.TheConstants.{MAX_COUNT}
use Rattle.relay_store.specs.Kept as store
use Rattle.relay_store.specs.Kept.{Kept}
use Rattle.relay_keeping.specs.Begun.{AreBegun, AreNotedFrom, HasRoom, client_named, noted_client}
use Rattle.relay_keeping.specs.Noted.{noted_room}
use Rattle.relay_keeping.specs.Trailing.{NotesAll}
use Rattle.relay_keeping.specs.declared.kept_room.KeptRoom.{KeptRoom}
use Rattle.relay_keeping.proofs.Noting.{noted_past}
use Rattle.relay_keeping.specs.Clients.{AreClientsOf, HasClient}
use Rattle.relay_keeping.specs.Mirrored.{IsKept, Mirrors}
use Rattle.relay_keeping.specs.declared.client.Client.{Client}
use Rattle.relay_keeping.specs.declared.clients.Clients.{Clients}

-- a room that its client sees is the one that is kept
pub is_kept : (kept : Option store.Room) (client : Option Client)
    (made : Option (List ℕ × RoomSessions)) → HasClient kept client → HasRoom client made
    → IsKept kept made
is_kept (Some kept) (Some client) (Some made) heard sees = record {
  client = sym heard.heard ∙ ap as_client sees;
  revision =
      let both = sym heard.at ∙ ap (option_map (λ held. held.0)) sees in cc both;
}
is_kept None None None heard sees = tt
is_kept None (Some client) made heard sees = absurd heard
is_kept (Some kept) None made heard sees = absurd heard
is_kept kept (Some client) None heard sees = absurd sees
is_kept kept None (Some made) heard sees = absurd sees

-- the hub has the rooms of the clients, and its floor is raised to the one that is kept
pub mirrors : (kept : Kept) (clients : Clients) (hub new : State) → AreClientsOf kept clients
    → AreBegun clients.rooms.entries hub
    → new ≡ with_floor (raised_floor clients.floor hub.floor) hub → Mirrors kept new
mirrors kept clients hub new are begun raised = subst (Mirrors kept) (sym raised) (record {
  rooms = λ name. is_kept _ _ _ (are.rooms name) (begun.rooms name);
  floor =
      let none : max 0 (min clients.floor MAX_COUNT) ≡ min clients.floor MAX_COUNT = omega arith in
      ap (raised_floor clients.floor) begun.floor ∙ none
      ∙ ap (λ floor. min floor MAX_COUNT) are.floor;
})

-- each room of the hub is noted as it is, and nothing else, once its client was taken
pub notes : (kept : Kept) (clients : Clients) (begun_hub hub : State)
    (rooms : Vec (Option KeptRoom)) (b : HubConfig) (E : Log) → AreClientsOf kept clients
    → AreBegun clients.rooms.entries begun_hub → hub.rooms ≡ begun_hub.rooms
    → AreNotedFrom clients.rooms.entries hub.rooms rooms → StandsFor b E hub
    → NotesAll (map (option_map noted_room) rooms.items) hub
notes kept clients begun_hub hub rooms b E are begun same noted stands = record {
  rooms = λ i there at.
      let found : room_named there.0 hub.rooms ≡ Some there =
      ap (option_and_then (slice_get hub.rooms)) (stands.names i there.0 there.1 at) ∙ at in
      let named = ap (room_named there.0) (sym same) ∙ found in
      noted.rooms_at i there at
      ∙ client_at there _ _ (are.rooms there.0)
      (subst (HasRoom (client_named there.0 clients.rooms.entries)) named (begun.rooms there.0));
  beyond = λ i above. noted_past rooms.items i (omega (arith, above, noted.count));
}
  where
    client_at : (there : List ℕ × RoomSessions) (kept : Option store.Room) (client : Option Client)
        → HasClient kept client → HasRoom client (Some there)
        → noted_client there.0 client ≡ Some (there.0, revision there.1.room)
    client_at there (Some kept) (Some client) heard sees =
        let both = sym heard.at ∙ ap (option_map (λ held. held.0)) sees in
        let rev : store.revision kept ≡ revision there.1.room = cc both in
        let noted = heard.noted ∙ rev in
        λ i. Some (there.0, noted i)
    client_at there None (Some client) heard sees = absurd heard
    client_at there kept None heard sees = absurd sees

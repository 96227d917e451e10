-- A hub as the code stores it.
use Rattle.std.specs.Prelude.{ℕ, List, map, string_bytes}
use Rattle.std.specs.declared.string.String.{String}
use Rattle.relay_hub.specs.State.{RoomSessions, State}
use Rattle.relay_hub.specs.declared.hub.Hub.TheInside.{Inside}

abbrev pub named : {A : Type 0} → String A × RoomSessions → List ℕ × RoomSessions
named e = (string_bytes e.0, e.1)

abbrev pub rooms_of : {A : Type 0} → List (String A × RoomSessions) → List (List ℕ × RoomSessions)
rooms_of es = map named es

-- the hub that contracts see
abbrev pub hub_of : Inside → State
hub_of h = record {
  config = h.config;
  next = h.next;
  floor = h.floor;
  rooms = rooms_of h.rooms.entries;
  homes = h.homes.entries;
  wills = h.wills.items;
}

-- An operator's view of a room.
use Rattle.std.specs.Prelude.{ℕ, List, length, Option, option_and_then, slice_get}
use Rattle.relay_tree.specs.Document.{weight}
use Rattle.relay_history.specs.Trimmed.{history_weight}
use Rattle.relay_room.specs.Room.{revision}
use Rattle.relay_hub.specs.State.{RoomSessions, index_named}
use Rattle.relay_hub.specs.declared.summary.RoomSummary.{RoomSummary}

-- the room's name, its revision, how many sessions are open in it, and the weights of its document
-- and of the changes that it holds
pub record Summary : Type 0 where
  pub name : List ℕ
  pub revision : ℕ
  pub sessions : ℕ
  pub weight : ℕ
  pub history : ℕ

abbrev pub summary_of : List ℕ × RoomSessions → Summary
summary_of r = record {
  name = r.0;
  revision = revision r.1.room;
  sessions = length r.1.sessions;
  weight = weight r.1.room.document;
  history = history_weight r.1.room.history;
}

-- the same as the code holds it
abbrev pub shown_by : RoomSummary → Summary
shown_by x = record {
  name = x.name.now;
  revision = x.revision;
  sessions = x.sessions;
  weight = x.weight;
  history = x.history;
}

-- the room of a name
abbrev pub room_named : List ℕ → List (List ℕ × RoomSessions) → Option (List ℕ × RoomSessions)
room_named name rooms = option_and_then (slice_get rooms) (index_named name rooms)

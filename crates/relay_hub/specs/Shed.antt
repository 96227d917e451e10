-- The memory that a hub gives back when some was refused: that of its rooms' histories, and of the
-- patches that wait.
use Rattle.std.specs.Prelude.{ℕ, List, [], ◌∷◌, map}
use Rattle.relay_outbox.specs.Outbox.{Contents, folded}
use Rattle.relay_patch.specs.declared.op.Op.{Op}
use Rattle.relay_proto.specs.declared.reply.Reply.{Reply}
use Rattle.relay_room.specs.Room.{trimmed}
use Rattle.relay_tree.specs.declared.budget.Budget.{Budget}
use Rattle.relay_tree.specs.declared.budget.Budget.TheVariants.{Unbounded, Left}
use Rattle.relay_hub.specs.Session.{Session, with_outbox}
use Rattle.relay_hub.specs.State.{RoomSessions, room_sessions, State}

-- what the changes that a room remembers may weigh afterwards: nothing, if there was a bound.
-- Without one a room promises all of its last revisions, and keeps them
abbrev pub shed_budget : Budget → Budget
shed_budget Unbounded = Unbounded
shed_budget (Left most) = Left 0

-- the patches that wait, if there are any, fold into a snapshot that is due
abbrev pub fold_patches : List (ℕ × List Op) → Contents Reply (ℕ × List Op)
    → Contents Reply (ℕ × List Op)
fold_patches [] contents = contents
fold_patches (p ∷ ps) contents = folded contents

abbrev pub shed_session : Session → Session
shed_session x = with_outbox (fold_patches x.outbox.patches x.outbox) x

abbrev pub shed_room : Budget → RoomSessions → RoomSessions
shed_room budget g = room_sessions (trimmed budget g.room) (map shed_session g.sessions)

abbrev pub shed_named : Budget → List ℕ × RoomSessions → List ℕ × RoomSessions
shed_named budget r = (r.0, shed_room budget r.1)

-- the hub keeps its rooms, its documents, its sessions and their replies
abbrev pub shed : State → State
shed hub = record {
  config = hub.config;
  next = hub.next;
  floor = hub.floor;
  rooms = map (shed_named (shed_budget hub.config.history_weight)) hub.rooms;
  homes = hub.homes;
  wills = hub.wills;
}

-- The message that brings a client of a room from an earlier revision to the present one.
use Rattle.std.specs.Prelude.{ℕ, ◌≡◌, ⊤, List, [], Bool, true, false, Option, Some, None}
use Rattle.std.specs.Prelude.{option_map, nat_eq, nat_lt, string_bytes, if◌then◌else◌}
use Rattle.relay_proto.specs.declared.message.Message.{Message}
use Rattle.relay_proto.specs.declared.message.Message.TheVariants as message
use Rattle.relay_room.specs.CatchUp.{caught_up_within}
use Rattle.relay_room.specs.Room.{State as Room, revision}
use Rattle.relay_room.specs.declared.catch_up.CatchUp.{CatchUp}
use Rattle.relay_room.specs.declared.catch_up.CatchUp.TheVariants.{Nothing, Patch, Snapshot}
use Rattle.relay_tree.specs.Document.{weight}
use Rattle.relay_tree.specs.declared.budget.Budget.TheVariants.{Left}
use Rattle.relay_view.specs.View.{View}
use Rattle.relay_hub.specs.EncodedPatch.{IsTextOf}
use Rattle.relay_hub.specs.Session.{snapshot_of}
use Rattle.relay_hub.specs.State.{RoomSessions}
use Rattle.relay_hub.specs.declared.room_update.RoomUpdate.{RoomUpdate}

-- the message of an update. Even if it changes nothing of the view, it names the revision
abbrev pub update_message : Room → View → CatchUp → Message
update_message room pointers Nothing = message.Patch (revision room) []
update_message room pointers (Patch ops) = message.Patch (revision room) ops
update_message room pointers Snapshot = snapshot_of room pointers

-- the update for a client that holds its view of a revision: a snapshot, if the revision is to
-- come, or a patch would weigh more than the document
abbrev pub update_from : Room → View → ℕ → CatchUp
update_from room pointers rev =
    if nat_lt (revision room) rev then Snapshot
    else caught_up_within (Left (weight room.document)) room rev pointers

-- the message for a client that holds its view of a revision, or nothing; none if that is the
-- present one
abbrev pub message_since : Room → View → Option ℕ → Option Message
message_since room pointers None = Some (snapshot_of room pointers)
message_since room pointers (Some rev) =
    if nat_eq rev (revision room) then None
    else Some (update_message room pointers (update_from room pointers rev))

-- the same of the room at an index, if there is one
abbrev pub message_there : Option (List ℕ × RoomSessions) → View → Option ℕ → Option Message
message_there None pointers held = None
message_there (Some r) pointers held = message_since r.1.room pointers held

abbrev pub is_snapshot : Message → Bool
is_snapshot (message.Snapshot rev shown) = true
is_snapshot m = false

-- the update has the text of the message, which leads to the revision
pub record Writes (rev : ℕ) (m : Message) (update : RoomUpdate) : Type 0 where
  pub revision : update.revision ≡ rev
  pub kind : update.is_snapshot ≡ is_snapshot m
  pub text : IsTextOf (string_bytes update.text) m

abbrev pub Tells : ℕ → Option Message → Option RoomUpdate → Type 0
Tells rev None None = ⊤
Tells rev (Some m) (Some update) = Writes rev m update
Tells rev None (Some update) = ⊥
Tells rev (Some m) None = ⊥

-- the revision of the room at an index
abbrev pub revision_there : Option (List ℕ × RoomSessions) → ℕ
revision_there None = 0
revision_there (Some r) = revision r.1.room

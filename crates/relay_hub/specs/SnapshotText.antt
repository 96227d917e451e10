-- The text of a room's present snapshot, which the room may keep.
use Rattle.std.specs.Prelude.{length, ℕ, ⊤, List, Option, Some, None, Result, Ok}
use Rattle.relay_proto.specs.declared.refusal.Refusal.{Refusal}
use Rattle.relay_proto.specs.declared.request.Request.{Request}
use Rattle.relay_proto.specs.declared.request.Request.TheVariants.{Edit}
use Rattle.relay_room.specs.Room.{State as Room}
use Rattle.relay_view.specs.View.{View}
use Rattle.relay_hub.specs.EncodedPatch.{IsTextOf}
use Rattle.relay_hub.specs.Session.{snapshot_of}

-- if a text is kept, it is that of the room's present snapshot for its view
abbrev pub IsSnapshotText : Room → Option (View × List ℕ) → Type 0
IsSnapshotText room (Some kept) = IsTextOf kept.1 (snapshot_of room kept.0)
IsSnapshotText room None = ⊤

-- how many bytes the kept text has
abbrev pub kept_bytes : Option (View × List ℕ) → ℕ
kept_bytes (Some kept) = length kept.1
kept_bytes None = 0

-- what is kept while a request is answered: nothing, if it asks for an edit
abbrev pub kept_over : Result Request Refusal → Option (View × List ℕ) → Option (View × List ℕ)
kept_over (Ok (Edit id base patch)) kept = None
kept_over _ kept = kept

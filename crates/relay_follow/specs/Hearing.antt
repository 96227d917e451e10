-- The effect of a text on a follower: a client that is never lost, since it refuses every text that
-- would leave it lost.
use Rattle.std.specs.Prelude.{◌≡◌, ℕ, List, Option, Some, None, option_map, Result, Ok, Err, nat_lt}
use Rattle.std.specs.Prelude.{if◌then◌else◌}
use Rattle.relay_tree.specs.Document.{Document}
use Rattle.relay_patch.specs.Patch.{free}
use Rattle.relay_patch.specs.After.{after}
use Rattle.relay_patch.specs.declared.fault.ApplyFault.{ApplyFault}
use Rattle.relay_patch.specs.declared.op.Op.{Op}
use Rattle.relay_proto.specs.declared.message.Message.{Message}
use Rattle.relay_proto.specs.declared.message.Message.TheVariants as message
use Rattle.relay_proto.specs.MessageRead.{message_of_text}
use Rattle.relay_proto.specs.Client.{Client, nothing, holds, lost, client}
use Rattle.relay_follow.specs.declared.fault.HearFault.{HearFault}
use Rattle.relay_follow.specs.declared.fault.HearFault.TheVariants.{NotMessage, NoView, Order}
use Rattle.relay_follow.specs.declared.fault.HearFault.TheVariants.{Apply}

-- the client with the revision and the tree that a follower holds, if any
abbrev pub as_client : Option (ℕ × Document) → Client
as_client None = nothing
as_client (Some held) = holds held.0 held.1

-- the client after a text; None if the text is no message
abbrev pub told : Client → List ℕ → Option Client
told c s = option_map (client c) (message_of_text s)

-- the text is no message, or it leaves the client lost
abbrev pub IsLost : Option Client → Type 0
IsLost None = Unit {0}
IsLost (Some c) = c ≡ lost

-- The first fault of a text, if it has one.

abbrev pub apply_fault : Result Document ApplyFault → Option HearFault
apply_fault (Ok tree) = None
apply_fault (Err fault) = Some Apply

abbrev pub patch_fault : ℕ → List Op → Option (ℕ × Document) → Option HearFault
patch_fault rev ops None = Some NoView
patch_fault rev ops (Some held) =
    if nat_lt held.0 rev then apply_fault (after held.1 ops free) else Some Order

abbrev pub message_fault : Option (ℕ × Document) → Message → Option HearFault
message_fault held (message.Reply r) = None
message_fault held (message.Patch rev ops) = patch_fault rev ops held
message_fault held (message.Snapshot rev view) = None

abbrev pub read_fault : Option (ℕ × Document) → Option Message → Option HearFault
read_fault held None = Some NotMessage
read_fault held (Some m) = message_fault held m

abbrev pub hear_fault : Option (ℕ × Document) → List ℕ → Option HearFault
hear_fault held s = read_fault held (message_of_text s)

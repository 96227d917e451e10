-- The state of a client, and how each message changes it.
use Rattle.std.specs.Prelude.{ℕ, List, [], ◌∷◌, Result, Ok, Err, nat_lt, if◌then◌else◌}
use Rattle.relay_tree.specs.Document.{Document}
use Rattle.relay_patch.specs.Patch.{free}
use Rattle.relay_patch.specs.After.{after}
use Rattle.relay_patch.specs.declared.fault.ApplyFault.{ApplyFault}
use Rattle.relay_patch.specs.declared.op.Op.{Op}
use Rattle.relay_proto.specs.declared.message.Message.{Message}
use Rattle.relay_proto.specs.declared.message.Message.TheVariants.{Reply, Patch, Snapshot}

-- a client holds nothing, holds a revision and a tree, or is lost
pub data Client : Type 0 where
  nothing : Client
  holds : ℕ → Document → Client
  lost : Client

-- after a patch the client holds the patched tree and the patch's revision; if the patch was
-- refused, it is lost
abbrev pub led_to : ℕ → Result Document ApplyFault → Client
led_to rev (Ok tree) = holds rev tree
led_to rev (Err fault) = lost

-- a patch applies if the client holds a tree and the patch's revision is above the one held; else
-- the client is lost
abbrev pub patched : ℕ → List Op → Client → Client
patched rev ops (holds r tree) = if nat_lt r rev then led_to rev (after tree ops free) else lost
patched rev ops _ = lost

-- a reply changes nothing, and a snapshot sets both the revision and the tree
abbrev pub client : Client → Message → Client
client c (Reply r) = c
client c (Patch rev ops) = patched rev ops c
client c (Snapshot rev view) = holds rev view

-- the state of a client after messages, one after the other
abbrev pub client_after : Client → List Message → Client
client_after c [] = c
client_after c (m ∷ ms) = client_after (client c m) ms

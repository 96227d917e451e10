-- A waiting patch as a message, and the text of a message.
use Rattle.std.specs.Prelude.{ℕ, ◌-◌, ◌^◌, ◌≡◌, ⊤, List, Option, Some, None, nat_le, if◌then◌else◌}
use Rattle.relay_patch.specs.declared.op.Op.{Op}
use Rattle.relay_proto.specs.Message.{message_document}
use Rattle.relay_proto.specs.MessageRead.{message_of_text}
use Rattle.relay_proto.specs.Written.{IsWritable}
use Rattle.relay_proto.specs.declared.message.Message.{Message}
use Rattle.relay_proto.specs.declared.message.Message.TheVariants as message
use Rattle.relay_tree.specs.Text.{text_of}

-- the message of a revision and the operations that bring a view to it
abbrev pub patch_message : ℕ × List Op → Message
patch_message p = message.Patch p.0 p.1

abbrev pub message_text : Message → List ℕ
message_text m = text_of (message_document m)

-- a weight; none if it does not fit in 64 bits
abbrev pub counted : ℕ → Option ℕ
counted n = if nat_le n (2 ^ 64 - 1) then Some n else None

-- the text of a message reads back as the message, if the message is writable
abbrev pub ReadsBack : Option Message → Type 0
ReadsBack (Some m) = IsWritable m → message_of_text (message_text m) ≡ Some m
ReadsBack None = ⊤

-- the text is that of the message, and reads back
pub record IsTextOf (text : List ℕ) (m : Message) : Type 0 where
  pub spells : text ≡ message_text m
  pub reads_back : ReadsBack (Some m)

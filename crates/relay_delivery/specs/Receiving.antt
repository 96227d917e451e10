-- The connection of a client that reads text frames, and what it makes of one.
use Rattle.std.specs.Prelude.{◌≡◌, List, ℕ, length, None, Some, false, option_map, IsUtf8}
use Rattle.websocket.specs.Connection.{Connection}
use Rattle.websocket.specs.Content.{text, received_content}
use Rattle.websocket.specs.declared.error.Error.{Error as FrameError}
use Rattle.websocket.specs.declared.error.Error.TheVariants.{Utf8, OutOfMemory}
use Rattle.websocket.specs.declared.protocol.config.Role.TheVariants.{Client}
use Rattle.websocket.specs.declared.protocol.context.Step.{Step}
use Rattle.websocket.specs.declared.protocol.state.WebSocketState.TheVariants.{Active}
use Rattle.relay_link.specs.Frames.{text_frame}
use Rattle.relay_delivery.specs.declared.fault.ReceiveFault.{ReceiveFault}
use Rattle.relay_delivery.specs.declared.fault.ReceiveFault.TheVariants.{NotFrames, NotUtf8}
use Rattle.relay_delivery.specs.declared.fault.ReceiveFault.TheVariants.{NoMemory}

-- a client's connection between two messages, which puts no limit on their length
abbrev pub listening : Connection
listening = record {
  role = Client;
  state = Active;
  config =
      record { max_message_size = None; max_frame_size = None; accept_unmasked_frames = false };
  fragments = None;
}

-- the step took the frame of this text, and the connection may read the next
pub record Takes (words : List ℕ) (conn : Connection) (input : List ℕ) (step : Step) : Type 0 where
  pub connection : conn ≡ listening
  pub consumed : step.consumed ≡ length (text_frame words)
  pub message : option_map (received_content input) step.message ≡ Some (text words)

-- a text's frame is refused only if the text is not UTF-8
abbrev pub IsRefusalOf : List ℕ → ReceiveFault → Type 0
IsRefusalOf words NotUtf8 = ¬ (IsUtf8 words)
IsRefusalOf words _ = ⊥

-- the fault of bytes that the protocol refuses
abbrev pub frame_fault : FrameError → ReceiveFault
frame_fault Utf8 = NotUtf8
frame_fault OutOfMemory = NoMemory
frame_fault _ = NotFrames

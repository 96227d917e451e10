-- The frames that a link sends (RFC 6455, section 5.2).
use Rattle.std.specs.Prelude.{◌≡◌, ℕ, List, [], ◌∷◌, ◌++◌, Option, None}
use Rattle.std.specs.Io.KnownBytes.{Appends, append_known}
use Rattle.tungstenite.specs.Socket.{Socket}
use Rattle.websocket.specs.Connection.{whole_header}
use Rattle.websocket.specs.Frame.{encode_frame}
use Rattle.websocket.specs.declared.protocol.config.Role.TheVariants.{Server}
use Rattle.websocket.specs.declared.protocol.frame.coding.Data.TheVariants.{Text}
use Rattle.websocket.specs.declared.protocol.frame.coding.OpCode.TheVariants.{Data}
use Rattle.relay_link.specs.Hears.{ReadsOn}
use Rattle.relay_link.specs.Stream.{written}
use Rattle.relay_link.specs.declared.corked_writer.CorkedWriter.{CorkedWriter}

-- a text as the one frame that carries it from a server: final, with no extension, and not masked
abbrev pub text_frame : List ℕ → List ℕ
text_frame text = encode_frame (whole_header (Data Text) None) text

-- the frames of texts, one after another
abbrev pub text_frames : List (List ℕ) → List ℕ
text_frames [] = []
text_frames (text ∷ texts) = text_frame text ++ text_frames texts

module _ {S : Type 0} where
  -- all that was framed on a socket so far, where the bytes of its stream are known: those, and
  -- then what waits
  abbrev pub framed : (S → Option (List ℕ)) → Socket (CorkedWriter S) → Option (List ℕ)
  framed contents socket = append_known (written contents socket.stream) socket.output

  -- A call framed these bytes on the socket: all of them, and nothing else, behind what was framed
  -- before. It read nothing.
  pub record Frames (contents : S → Option (List ℕ)) (old new : Socket (CorkedWriter S))
      (frames : List ℕ) : Type 0 where
    pub reads_on : ReadsOn old new
    pub bytes : old.conn.role ≡ Server → Appends (framed contents old) (framed contents new) frames

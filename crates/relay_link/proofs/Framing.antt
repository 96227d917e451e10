-- The frames that the calls of a socket make.
use Rattle.std.proofs.Common.{◌≡◌, ℕ, List, [], ◌++◌, Option, None, Some, Ok, Err, Result, IfErr}
use Rattle.std.proofs.Common.{OnOk, refl, sym, subst, ap, ◌∙◌, append_assoc, append-nil}
use Rattle.std.specs.Io.KnownBytes.{Appends, Keeps, append_known}
use Rattle.std.proofs.KnownBytes.{append_known-moved}
use Rattle.websocket.specs.declared.error.Error.{Error as FrameError}
use Rattle.websocket.specs.declared.protocol.config.Role.{Role}
use Rattle.websocket.specs.declared.protocol.config.Role.TheVariants.{Server}
use Rattle.websocket.specs.declared.protocol.frame.coding.Data.TheVariants.{Text}
use Rattle.websocket.specs.declared.protocol.frame.coding.OpCode.{OpCode}
use Rattle.websocket.specs.declared.protocol.frame.coding.OpCode.TheVariants.{Data}
use Rattle.websocket.specs.Connection.{Connection, IsMaskOf, check_can_write, send, write_step}
use Rattle.websocket.specs.Connection.{whole_header}
use Rattle.websocket.specs.Content.{text}
use Rattle.websocket.specs.Frame.{Checked, after_check, encode_frame}
use Rattle.websocket.specs.View.{Leaves}
use Rattle.tungstenite.specs.declared.error.Error.{Error}
use Rattle.tungstenite.specs.Failure.{IsIo}
use Rattle.tungstenite.specs.Socket.{Socket, Writes, Flushed}
use Rattle.relay_link.specs.Frames.{text_frame, Frames}
use Rattle.relay_link.specs.Stream.{written}
use Rattle.relay_link.specs.declared.corked_writer.CorkedWriter.{CorkedWriter}

-- the writer took some of what waits with one more frame: all in all the frame was appended
joined : (a b : Option (List ℕ)) (sent old new frame : List ℕ) → Appends a b sent
    → sent ++ new ≡ old ++ frame → Appends (append_known a old) (append_known b new) frame
joined None b sent old new frame took all = tt
joined (Some x) None sent old new frame took all = absurd took
joined (Some x) (Some y) sent old new frame took all =
    ap (λ l. l ++ new) took ∙ append_assoc x sent new ∙ ap (λ l. x ++ l) all
    ∙ sym (append_assoc x old frame)

pub appends_kept : (a b : Option (List ℕ)) → Keeps a b → Appends a b []
appends_kept None b kept = tt
appends_kept (Some x) None kept = absurd kept
appends_kept (Some x) (Some y) kept = kept ∙ sym (append-nil x)

no_mask : (mask : Option (List ℕ)) → IsMaskOf Server mask → mask ≡ None
no_mask None is = refl
no_mask (Some key) is = absurd (cc is.0)

sent_whole : (role : Role) (mask : Option (List ℕ)) (opcode : OpCode) (payload old new : List ℕ)
    → role ≡ Server → IsMaskOf role mask
    → new ≡ old ++ encode_frame (whole_header opcode mask) payload
    → new ≡ old ++ encode_frame (whole_header opcode None) payload
sent_whole role mask opcode payload old new server masked is =
    subst (λ m. new ≡ old ++ encode_frame (whole_header opcode m) payload)
    (no_mask mask (subst (λ r. IsMaskOf r mask) server masked)) is

-- a text that went out left the connection as it was
left_as : (check : Checked FrameError) (conn next : Connection) (payload old new : List ℕ)
    → Leaves (after_check check (send conn (Data Text) payload)) next old new
    → (next ≡ conn) × (conn.role ≡ Server → new ≡ old ++ text_frame payload)
left_as (Err e) conn next payload old new leaves = absurd leaves
left_as (Ok _) conn next payload old new leaves = (
  leaves.0,
  λ server.
      sent_whole next.role leaves.1.0 (Data Text) payload old new (ap (λ (c : Connection).
      c.role) leaves.0 ∙ server) leaves.1.1 leaves.1.2,
)

module _ {S : Type 0} (contents : S → Option (List ℕ)) (old new : Socket (CorkedWriter S)) where
  text_written : (payload : List ℕ)
      → Writes (written contents) old new (write_step old.conn (text payload))
      → Frames contents old new (text_frame payload)
  text_written payload wrote =
      let left =
      left_as (check_can_write old.conn.state) old.conn new.conn payload old.output
      (wrote.0 ++ new.output) wrote.1 in
      record {
        reads_on = record { conn = left.0; input = wrote.3 };
        bytes =
            λ server.
            joined (written contents old.stream) (written contents new.stream) wrote.0 old.output
            new.output (text_frame payload) wrote.2 (left.1 server);
      }

  -- a call that writes, and sent all or had to wait or failed by its stream
  pub wrote_text : (payload : List ℕ) (sent : Result (Unit {0}) Error)
      → OnOk sent (Writes (written contents) old new (write_step old.conn (text payload)))
      → IfErr sent (λ e. IsIo e
      → Writes (written contents) old new (write_step old.conn (text payload))) → IfErr sent IsIo
      → Frames contents old new (text_frame payload)
  wrote_text payload (Ok u) wrote failed io = text_written payload wrote
  wrote_text payload (Err e) wrote failed io = text_written payload (failed io)

  -- what waits goes out, and nothing else is framed
  pub flushed : Flushed (written contents) old new → Frames contents old new []
  flushed went = record {
    reads_on = record { conn = went.3; input = went.4 };
    bytes =
        λ server.
        appends_kept _ _ (append_known-moved (written contents old.stream)
        (written contents new.stream) went.0 new.output old.output went.2 went.1);
  }

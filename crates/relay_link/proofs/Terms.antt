-- A connection keeps its terms through all that it reads.
use Rattle.std.proofs.Common.{◌≡◌, ℕ, List, [], ◌∷◌, ◌++◌, Bool, true, false, Option, None, Some}
use Rattle.std.proofs.Common.{Result, Ok, Err, drop, refl, sym, subst, ap, ◌∙◌}
use Rattle.websocket.specs.declared.error.Error.{Error as FrameError}
use Rattle.websocket.specs.declared.protocol.frame.codec.FrameStatus.TheVariants.{Complete}
use Rattle.websocket.specs.declared.protocol.frame.coding.CloseCode.{CloseCode}
use Rattle.websocket.specs.declared.protocol.frame.coding.Control.{Control}
use Rattle.websocket.specs.declared.protocol.frame.coding.Control.TheVariants.{Close, Ping, Pong}
use Rattle.websocket.specs.declared.protocol.frame.coding.Data.{Data}
use Rattle.websocket.specs.declared.protocol.frame.coding.Data.TheVariants.{Continue, Text, Binary}
use Rattle.websocket.specs.declared.protocol.frame.coding.OpCode.{OpCode}
use Rattle.websocket.specs.declared.protocol.frame.coding.OpCode.TheVariants as op
use Rattle.websocket.specs.declared.protocol.incomplete.MessageType.{MessageType}
use Rattle.websocket.specs.declared.protocol.incomplete.MessageType.TheVariants as kind
use Rattle.websocket.specs.Connection.{Connection, Effect, can_write, has_allowed_code}
use Rattle.websocket.specs.Connection.{decode_close, on_close, on_short_control, on_control}
use Rattle.websocket.specs.Connection.{complete_message, check_so_far, deliver, on_message_bytes}
use Rattle.websocket.specs.Connection.{on_data_after, on_data, check_header, on_opcode, on_frame}
use Rattle.websocket.specs.Connection.{read_step}
use Rattle.websocket.specs.Content.{Content}
use Rattle.websocket.specs.Frame.{check_size}
use Rattle.websocket.proofs.StreamLemmas.{after_check_passed, TookFrame_from_read}
use Rattle.std.specs.Prelude.{length, nat_lt, cond}
use Rattle.tungstenite.specs.declared.message.Message.{Message}
use Rattle.tungstenite.specs.declared.error.Error.{Error}
use Rattle.tungstenite.specs.Failure.{IsIo}
use Rattle.tungstenite.specs.Config.{HasLimits}
use Rattle.tungstenite.specs.Socket.{Socket, Run, Runs, Reads}
use Rattle.tungstenite.specs.declared.protocol.WebSocketConfig.{WebSocketConfig}
use Rattle.websocket.specs.declared.protocol.config.Role.TheVariants.{Server}
use Rattle.websocket.specs.declared.protocol.config.WebSocketConfig.{WebSocketConfig as FrameConfig}
use Rattle.relay_link.specs.Terms.{limits, Serves, KeepsTerms}

-- ---- what is kept

pub keeps_same : (old new : Connection) → new ≡ old → KeepsTerms old new
keeps_same old new same =
    record {
      role = ap (λ (c : Connection). c.role) same;
      config = ap (λ (c : Connection). c.config) same;
    }

pub keeps_then : {a b c : Connection} → KeepsTerms a b → KeepsTerms b c → KeepsTerms a c
keeps_then first more =
    record { role = more.role ∙ first.role; config = more.config ∙ first.config }

pub serves_then : {a b : Connection} → Serves a → KeepsTerms a b → Serves b
serves_then serves keeps =
    record { role = keeps.role ∙ serves.role; limited = keeps.config ∙ serves.limited }

-- what a frame does keeps them
abbrev Keeps : Connection → Effect → Type 0
Keeps conn effect = KeepsTerms conn effect.next

done : {a b : Effect} → ◌≡◌ {A = Result Effect FrameError} (Ok a) (Ok b) → b ≡ a
done is = cc is

close_cases : (conn : Connection) (payload : List ℕ) (frame : Option (CloseCode
    × List ℕ)) (writes allowed : Bool) (effect : Effect) → can_write conn.state ≡ writes
    → has_allowed_code frame ≡ allowed
    → on_close conn payload (Ok frame) ≡ Ok effect → Keeps conn effect
close_cases conn payload frame false allowed effect state code is =
    rw (done is, state) (record { role = refl; config = refl })
close_cases conn payload frame true true effect state code is =
    rw (done is, state, code) (record { role = refl; config = refl })
close_cases conn payload frame true false effect state code is =
    rw (done is, state, code) (record { role = refl; config = refl })

on_close_keeps : (conn : Connection) (payload : List ℕ)
    (r : Result (Option (CloseCode × List ℕ)) FrameError) (effect : Effect)
    → on_close conn payload r ≡ Ok effect → Keeps conn effect
on_close_keeps conn payload (Err e) effect is = absurd (cc is)
on_close_keeps conn payload (Ok frame) effect is =
    close_cases conn payload frame _ _ effect refl refl is

short_control_keeps : (conn : Connection) (control : Control) (payload : List ℕ) (effect : Effect)
    → on_short_control conn control payload ≡ Ok effect → Keeps conn effect
short_control_keeps conn Close payload effect is =
    on_close_keeps conn payload (decode_close payload) effect is
short_control_keeps conn Pong payload effect is =
    rw (done is) (record { role = refl; config = refl })
short_control_keeps conn Ping payload effect is =
    rw (done is) (record { role = refl; config = refl })

if_short : (long : Bool) (conn : Connection) (control : Control) (payload : List ℕ)
    (effect : Effect) (error : FrameError)
    → cond long (Err error) (on_short_control conn control payload) ≡ Ok effect → Keeps conn effect
if_short true conn control payload effect error is = absurd (cc is)
if_short false conn control payload effect error is =
    short_control_keeps conn control payload effect is

control_keeps : (conn : Connection) (control : Control) (is_final : Bool) (payload : List ℕ)
    (effect : Effect) → on_control conn control is_final payload ≡ Ok effect → Keeps conn effect
unfolding on_control
control_keeps conn control false payload effect is = absurd (cc is)
control_keeps conn control true payload effect is =
    if_short (nat_lt 125 (length payload)) conn control payload effect _ is

delivered_keeps : (conn : Connection) (content : Result Content FrameError) (effect : Effect)
    → deliver conn content ≡ Ok effect → Keeps conn effect
delivered_keeps conn (Ok content) effect is = rw (done is) (record { role = refl; config = refl })
delivered_keeps conn (Err e) effect is = absurd (cc is)

message_keeps : (conn : Connection) (kind : MessageType) (is_final : Bool) (bytes : List ℕ)
    (effect : Effect) → on_message_bytes conn kind is_final bytes ≡ Ok effect → Keeps conn effect
unfolding on_message_bytes
message_keeps conn kind true bytes effect is =
    delivered_keeps conn (complete_message kind bytes) effect
    (after_check_passed (check_size (length bytes) conn.config.max_message_size) _ effect is)
message_keeps conn kind false bytes effect is =
    let fits =
    after_check_passed (check_size (length bytes) conn.config.max_message_size) _ effect is
    in
    rw (done (after_check_passed (check_so_far kind bytes) _ effect fits))
    (record { role = refl; config = refl })

data_keeps : (conn : Connection) (fragments : Option (MessageType
    × List ℕ)) (data_kind : Data) (is_final : Bool) (payload : List ℕ) (effect : Effect)
    → on_data_after conn fragments data_kind is_final payload ≡ Ok effect → Keeps conn effect
data_keeps conn None Continue is_final payload effect is = absurd (cc is)
data_keeps conn None Text is_final payload effect is =
    message_keeps conn kind.Text is_final payload effect is
data_keeps conn None Binary is_final payload effect is =
    message_keeps conn kind.Binary is_final payload effect is
data_keeps conn (Some p) Continue is_final payload effect is =
    message_keeps conn p.0 is_final (p.1 ++ payload) effect is
data_keeps conn (Some p) Text is_final payload effect is = absurd (cc is)
data_keeps conn (Some p) Binary is_final payload effect is = absurd (cc is)

opcode_keeps : (conn : Connection) (opcode : OpCode) (is_final : Bool) (payload : List ℕ)
    (effect : Effect) → on_opcode conn opcode is_final payload ≡ Ok effect → Keeps conn effect
unfolding on_data
opcode_keeps conn (op.Control control) is_final payload effect is =
    control_keeps conn control is_final payload effect is
opcode_keeps conn (op.Data data_kind) is_final payload effect is =
    data_keeps conn conn.fragments data_kind is_final payload effect is

step_keeps : (conn : Connection) (input : List ℕ) (p : ℕ × Effect)
    → read_step conn input ≡ Ok (Complete p) → Keeps conn p.1
unfolding on_frame
step_keeps conn input p read =
    let took = TookFrame_from_read conn input p read in
    opcode_keeps conn took.header.opcode took.header.is_final took.payload p.1
    (after_check_passed (check_header conn took.header) _ p.1 took.does)

run_keeps : (conn : Connection) (input : List ℕ) (run : Run) (end : Connection) (left : List ℕ)
    → Runs conn input run end left → KeepsTerms conn end
run_keeps conn input [] end left runs = keeps_same conn end runs.0
run_keeps conn input (p ∷ ps) end left runs =
    keeps_then (step_keeps conn input p runs.0)
    (run_keeps p.1.next (drop p.0 input) ps end left runs.1)

module _ {S : Type 0} (remaining : S → Option (List ℕ)) (old new : Socket S) where
  -- a read that gave a message
  pub read_message : (message : Message) → Reads remaining old new (Ok message)
      → KeepsTerms old.conn new.conn
  read_message message (run, got, c, i, sent, runs, gave) =
      keeps_then (run_keeps old.conn (old.input ++ got) run c i runs) (keeps_same c new.conn gave.1)

  -- one whose stream failed, or gave nothing now
  pub read_nothing : (error : Error) → IsIo error → Reads remaining old new (Err error)
      → KeepsTerms old.conn new.conn
  read_nothing error io (run, got, c, i, sent, runs, gave) =
      keeps_then (run_keeps old.conn (old.input ++ got) run c i runs)
      (keeps_same c new.conn (gave.2 io).0)

-- ---- the limits

-- a configuration with the limits gives them
limits_of : (config : FrameConfig) (given : WebSocketConfig) → HasLimits config given
    → HasLimits limits given → config ≡ limits
limits_of config given has is =
    subst (λ k.
    record {
      max_message_size = k;
      max_frame_size = config.max_frame_size;
      accept_unmasked_frames = config.accept_unmasked_frames;
    } ≡ limits) (is.0 ∙ sym has.0)
    (subst (λ k.
    record {
      max_message_size = limits.max_message_size;
      max_frame_size = k;
      accept_unmasked_frames = config.accept_unmasked_frames;
    } ≡ limits) (is.1 ∙ sym has.1)
    (subst (λ k.
    record {
      max_message_size = limits.max_message_size;
      max_frame_size = limits.max_frame_size;
      accept_unmasked_frames = k;
    } ≡ limits) (is.2 ∙ sym has.2) refl))

-- so it changes nothing of a socket that keeps them
pub grown : {S : Type 0} (old new : Socket S) (given : WebSocketConfig) → Serves old.conn
    → HasLimits new.conn.config given → HasLimits limits given
    → new ≡ record old { conn = record old.conn { config = new.conn.config } } → new ≡ old
grown old new given serves has is changed =
    changed ∙ ap (λ k. record old { conn = record old.conn { config = k } })
    (limits_of new.conn.config given has is ∙ sym serves.limited)

-- a new one keeps them
pub serves_new : {S : Type 0} (socket : Socket S) (given : WebSocketConfig)
    → socket.conn.role ≡ Server → HasLimits socket.conn.config given → HasLimits limits given
    → Serves socket.conn
serves_new socket given role has is =
    record { role = role; limited = limits_of socket.conn.config given has is }

-- The cause for which a link ends, and the time for which one that is closing waits.
use Rattle.std.specs.Prelude.{ℕ, ◌+◌, ◌≢◌, Some, None, Result, Ok, Err}
use Rattle.tungstenite.specs.Socket.{Socket}
use Rattle.tungstenite.specs.declared.error.Error.{Error}
use Rattle.tungstenite.specs.declared.error.Error.TheVariants.{ConnectionClosed, AlreadyClosed, Io}
use Rattle.tungstenite.specs.declared.error.Error.TheVariants.{Capacity, Protocol, WriteBufferFull}
use Rattle.tungstenite.specs.declared.error.Error.TheVariants.{Utf8, OutOfMemory}
use Rattle.websocket.specs.declared.error.ProtocolError.{ProtocolError}
use Rattle.websocket.specs.declared.error.ProtocolError.TheVariants.{ResetWithoutClosingHandshake}
use Rattle.relay_link.specs.declared.end_cause.EndCause.{EndCause}
use Rattle.relay_link.specs.declared.end_cause.EndCause.TheVariants as cause
use Rattle.relay_link.specs.declared.closing.TheConstants.{MAX_TURNS}
use Rattle.relay_link.specs.declared.draw_stop.DrawStop.{DrawStop}
use Rattle.relay_link.specs.declared.opened.Ending.{Ending}
use Rattle.relay_link.specs.declared.opened.Ending.TheVariants as ending
use Rattle.relay_link.specs.declared.state.State.{State}
use Rattle.relay_link.specs.declared.corked_writer.CorkedWriter.{CorkedWriter}
use Rattle.relay_link.specs.declared.state.State.TheVariants.{Open, Closing, Gone}
use Rattle.relay_link.specs.declared.transition.Transition.{Transition}

-- bytes that end without a close frame are the other side's end; every other violation of the
-- protocol breaks the link
abbrev pub protocol_cause : ProtocolError → EndCause
protocol_cause ResetWithoutClosingHandshake = cause.Peer
protocol_cause _ = cause.Broken

-- the cause for an error of a socket; the last case is never met, since it has the errors of a
-- handshake
abbrev pub socket_cause : Error → EndCause
socket_cause ConnectionClosed = cause.Peer
socket_cause AlreadyClosed = cause.Peer
socket_cause (Protocol error) = protocol_cause error
socket_cause (Capacity error) = cause.Broken
socket_cause Utf8 = cause.Broken
socket_cause (Io error) = cause.Stream
socket_cause OutOfMemory = cause.Memory
socket_cause WriteBufferFull = cause.Full
socket_cause _ = cause.Broken

-- the cause is another one than that a close was awaited in vain
abbrev pub IsNotSilent : EndCause → Type 0
IsNotSilent given = given ≢ cause.Silent

abbrev pub cause_of : Ending → EndCause
cause_of (ending.Closing given) = given
cause_of (ending.Gone given) = given

-- the state of an open link whose turn came to this, why it drew no more if it is still open, and
-- the cause if it is not
abbrev pub settled : {S : Type 0} → Result DrawStop Ending → Socket (CorkedWriter S) → ℕ
    → Transition S
settled (Ok stop) socket s = record { state = Open socket s; cause = None; stop = Some stop }
settled (Err (ending.Closing given)) socket s =
    record { state = Closing socket MAX_TURNS; cause = Some given; stop = None }
settled (Err (ending.Gone given)) socket s =
    record { state = Gone; cause = Some given; stop = None }

-- in how many turns, with this one, the other side may still answer a close; one more than all
-- before the close is sent
abbrev pub turns_left : {S : Type 0} → State S → ℕ
turns_left (Closing socket turns) = turns
turns_left _ = MAX_TURNS + 1

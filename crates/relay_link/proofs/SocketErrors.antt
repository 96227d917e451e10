-- The errors that calls of a socket return are errors of a socket.
use Rattle.std.proofs.Common.{◌≡◌, inl, inr, ℕ, List, Option, Result, Ok, Err, IfErr, sym, subst}
use Rattle.websocket.specs.Connection.{Connection, Effect}
use Rattle.websocket.specs.declared.error.Error.{Error as FrameError}
use Rattle.websocket.specs.declared.error.Error.TheVariants as frame
use Rattle.tungstenite.specs.declared.error.Error.{Error}
use Rattle.tungstenite.specs.declared.error.Error.TheVariants.{ConnectionClosed, AlreadyClosed, Io}
use Rattle.tungstenite.specs.declared.error.Error.TheVariants.{Capacity, Protocol, WriteBufferFull}
use Rattle.tungstenite.specs.declared.error.Error.TheVariants.{Utf8, AttackAttempt, Handshake}
use Rattle.tungstenite.specs.declared.error.Error.TheVariants.{HandshakeIncomplete}
use Rattle.tungstenite.specs.declared.error.Error.TheVariants.{JunkAfterRequest}
use Rattle.tungstenite.specs.declared.error.Error.TheVariants.{CustomResponseSuccessful, Url, Http}
use Rattle.tungstenite.specs.declared.error.Error.TheVariants.{Refused, OutOfMemory}
use Rattle.tungstenite.specs.Failure.{of_frame, IsOutside, ReadFails, WriteFails}
use Rattle.tungstenite.specs.Socket.{Socket, Reads}
use Rattle.relay_link.specs.SocketError.{IsOfSocket}

-- an error of a frame
of_frames : (x : FrameError) → IsOfSocket (of_frame x)
of_frames frame.ConnectionClosed = tt
of_frames frame.AlreadyClosed = tt
of_frames (frame.Capacity cause) = tt
of_frames (frame.Protocol cause) = tt
of_frames frame.Utf8 = tt
of_frames frame.OutOfMemory = tt

as_frame : (error : Error) (x : FrameError) → error ≡ of_frame x → IsOfSocket error
as_frame error x e = subst IsOfSocket (sym e) (of_frames x)

-- an error of the stream, or out of memory
of_outside : (error : Error) → IsOutside error → IsOfSocket error
of_outside ConnectionClosed h = tt
of_outside AlreadyClosed h = tt
of_outside (Io cause) h = tt
of_outside (Capacity cause) h = tt
of_outside (Protocol cause) h = tt
of_outside WriteBufferFull h = tt
of_outside Utf8 h = tt
of_outside AttackAttempt h = h
of_outside (Handshake cause) h = h
of_outside HandshakeIncomplete h = h
of_outside JunkAfterRequest h = h
of_outside CustomResponseSuccessful h = h
of_outside Url h = h
of_outside (Http response) h = h
of_outside (Refused response) h = h
of_outside OutOfMemory h = tt

of_read : (c : Connection) (i : List ℕ) (error : Error) → ReadFails c i error → IsOfSocket error
of_read c i error (inl outside) = of_outside error outside
of_read c i error (inr (inl (x, at, e))) = as_frame error x e
of_read c i error (inr (inr e)) = as_frame error _ e

of_write : (step : Result Effect FrameError) (error : Error) → WriteFails step error
    → IsOfSocket error
of_write step error (inl full) = subst IsOfSocket (sym full) tt
of_write step error (inr (inl outside)) = of_outside error outside
of_write step error (inr (inr (x, at, e))) = as_frame error x e

-- a read that failed
pub read_error : {S : Type 0} (remaining : S
    → Option (List ℕ)) (old new : Socket S) (error : Error) → Reads remaining old new (Err error)
    → IsOfSocket error
read_error remaining old new error (ps, got, c, i, sent, runs, gave) = of_read c i error gave.1

-- a flush, or a call that writes
pub flush_error : (r : Result (Unit {0}) Error) → IfErr r IsOutside → IfErr r IsOfSocket
flush_error (Ok u) h = tt
flush_error (Err error) h = of_outside error h

pub write_error : (step : Result Effect FrameError) (r : Result (Unit {0}) Error)
    → IfErr r (WriteFails step) → IfErr r IsOfSocket
write_error step (Ok u) h = tt
write_error step (Err error) h = of_write step error h

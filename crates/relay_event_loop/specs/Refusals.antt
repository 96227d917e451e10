-- The cause for which a handshake was refused, as the log says it.
use Rattle.std.specs.Prelude.{ℕ}
use Rattle.relay_hub.specs.declared.fault.OpenFault.{OpenFault}
use Rattle.relay_hub.specs.declared.fault.OpenFault.TheVariants as fault
use Rattle.relay_event_loop.specs.declared.connection_log.HandshakeRefusal.{HandshakeRefusal}
use Rattle.relay_event_loop.specs.declared.connection_log.HandshakeRefusal.TheVariants as refusal

-- the status of the reply
abbrev pub status_of : HandshakeRefusal → ℕ
status_of (refusal.Status status) = status
status_of _ = 503

-- the refusal of a handshake for which the hub opened no session
abbrev pub refusal_by : OpenFault → HandshakeRefusal
refusal_by fault.RoomName = refusal.Status 503
refusal_by fault.RoomsFull = refusal.RoomsFull
refusal_by fault.SessionsFull = refusal.SessionsFull
refusal_by fault.Exhausted = refusal.SessionsFull
refusal_by fault.NoMemory = refusal.NoMemory

-- A client's socket that reads a server's text frames off a stream.
use Rattle.std.specs.Prelude.{◌≡◌, ⊤, ℕ, ◌<◌, ◌^◌, length, List, [], Option, Some}
use Rattle.std.specs.List.{AllByRecursion}
use Rattle.std.specs.Io.KnownBytes.{prepend_known}
use Rattle.tungstenite.specs.Socket.{Socket}
use Rattle.relay_follow.specs.Hearing.{hear_fault}
use Rattle.relay_follow.specs.declared.fault.HearFault.TheVariants.{NoMemory}
use Rattle.relay_tree.specs.Document.{Document}
use Rattle.relay_delivery.specs.Receiving.{listening}
use Rattle.relay_delivery.specs.declared.fault.SocketFault.{SocketFault}
use Rattle.relay_delivery.specs.declared.fault.SocketFault.TheVariants.{Socket as Failed, NotText}
use Rattle.relay_delivery.specs.declared.fault.SocketFault.TheVariants.{Refused}

-- The socket is that of a client between two messages, nothing waits to be sent, and these bytes
-- are still to be read: those that it has taken, and then those that its stream has left.
pub record Listens {S : Type 0} (remaining : S → Option (List ℕ)) (socket : Socket S)
    (bytes : List ℕ) : Type 0 where
  pub connection : socket.conn ≡ listening
  pub nothing_waits : socket.output ≡ []
  pub left : prepend_known socket.input (remaining socket.stream) ≡ Some bytes

-- why a text that stands in front of these bytes was not heard: the socket failed, the follower
-- refuses it, or memory ran out
abbrev pub IsNextFault : SocketFault → Option (ℕ × Document) → List ℕ → Type 0
IsNextFault (Failed error) held text = ⊤
IsNextFault NotText held text = ⊥
IsNextFault (Refused NoMemory) held text = ⊤
IsNextFault (Refused fault) held text = hear_fault held text ≡ Some fault

-- the length of each text fits a frame (RFC 6455, section 5.2)
abbrev pub FitFrames : List (List ℕ) → Type 0
FitFrames = AllByRecursion (λ text. length text < 2 ^ 63)

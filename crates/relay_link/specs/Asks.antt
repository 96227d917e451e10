-- The room that a head asks for, and the access to it.
use Rattle.std.specs.Prelude.{◌≡◌, ◌≤◌, ℕ, List, [], ◌++◌, length, Bool, true, false, Option, Some}
use Rattle.std.specs.Prelude.{None, string_bytes, ⊤}
use Rattle.std.specs.Io.KnownBytes.{Consumes}
use Rattle.relay_shake.specs.Shaken.{AnswersHead, AnswersNoHead}
use Rattle.relay_shake.specs.declared.answer.Shake.{Shake}
use Rattle.relay_shake.specs.declared.answer.Shake.TheVariants.{Accept}
use Rattle.relay_access.specs.declared.access.Access.{Access}
use Rattle.relay_link.specs.Follows.{Rooms, no_opening}
use Rattle.relay_link.specs.Stream.{stream_of}
use Rattle.relay_link.specs.declared.head.TheConstants.{MAX_READ}
use Rattle.relay_link.specs.declared.state.State.{State}
use Rattle.relay_link.specs.declared.state.State.TheVariants.{Head}

abbrev pub accepted : Shake → Option (List ℕ × Access)
accepted (Accept room access origin reply) = Some (string_bytes room, access)
accepted _ = None

-- by the definition of the handshake, the answer to these bytes accepts a head that asks for that
-- room with that access
pub record Accepts (bytes room : List ℕ) (access : Access) : Type 0 where
  pub answer : Shake
  pub head : AnswersHead bytes answer
  pub no_head : AnswersNoHead bytes answer
  pub accepts : accepted answer ≡ Some (room, access)

-- Such a head is what was received in earlier turns, and what one read took then. If the bytes that
-- the stream had left are known, it took the first of them.
pub record Asks (received : List ℕ) (left : Option (List ℕ)) (room : List ℕ)
    (access : Access) : Type 0 where
  pub taken : List ℕ
  pub rest : Option (List ℕ)
  pub first : Consumes left rest taken
  pub one_read : length taken ≤ MAX_READ
  pub head : Accepts (received ++ taken) room access

-- a link that waits for a head may open the room that the head asks for, with the access that it
-- asks for, and no other link may open one
abbrev pub asked_by : {S : Type 0} → (S → Option (List ℕ)) → State S → Rooms
asked_by remaining (Head stream bytes) = Asks bytes.items (remaining (stream_of stream))
asked_by remaining _ = no_opening

module _ {S : Type 0} where
  abbrev pub awaits_head : State S → Bool
  awaits_head (Head stream bytes) = true
  awaits_head _ = false

  -- the link waits for a head on this stream, and has received nothing
  abbrev pub IsFresh : S → State S → Type 0
  IsFresh given (Head stream bytes) = (stream_of stream ≡ given) × (bytes.items ≡ [])
  IsFresh given _ = ⊥

  -- the link waited for a head before, and has received what the stream gave since
  abbrev pub IsReceived : (S → Option (List ℕ)) → S → List ℕ → State S → Type 0
  IsReceived remaining now received (Head stream bytes) =
      (taken : List ℕ) × Consumes (remaining (stream_of stream)) (remaining now) taken
      × (received ≡ bytes.items ++ taken)
  IsReceived remaining now received _ = ⊥

  -- if a link still waits for a head after a turn, it received what its stream gave in the turn
  abbrev pub Receives : (S → Option (List ℕ)) → State S → State S → Type 0
  Receives remaining old (Head stream bytes) =
      IsReceived remaining (stream_of stream) bytes.items old
  Receives remaining old _ = ⊤

-- The stage and the session of a link.
use Rattle.std.specs.Prelude.{◌≡◌, ⊤, ℕ, ◌≤◌, ◌&&◌, ◌==◌, length, Bool, true, false, not, Option}
use Rattle.std.specs.Prelude.{Some, None}
use Rattle.std.specs.Io.Buffered.{writer_buffer, writer_inner}
use Rattle.relay_link.specs.Stream.{has_failed}
use Rattle.relay_link.specs.declared.end_cause.EndCause.{EndCause}
use Rattle.relay_link.specs.declared.end_cause.EndCause.TheVariants as cause
use Rattle.relay_link.specs.declared.handshake_reply.Verdict.{Verdict}
use Rattle.relay_link.specs.declared.handshake_reply.Verdict.TheVariants.{Entered, Refused}
use Rattle.relay_link.specs.declared.stage.Stage.{Stage}
use Rattle.relay_link.specs.declared.stage.Stage.TheVariants as stage
use Rattle.relay_link.specs.declared.state.State.{State}
use Rattle.relay_link.specs.declared.state.State.TheVariants.{Head, Replying, Open, Closing, Gone}

-- the session that a reply reports as opened
abbrev pub entered : Verdict → Option ℕ
entered (Entered s) = Some s
entered (Refused status) = None

module _ {S : Type 0} where
  abbrev pub stage_of : State S → Stage
  stage_of (Head stream bytes) = stage.Head
  stage_of (Replying stream reply) = stage.Head
  stage_of (Open socket s) = stage.Open
  stage_of (Closing socket turns) = stage.Closing
  stage_of Gone = stage.Gone

  abbrev pub session_of : State S → Option ℕ
  session_of (Replying stream reply) = entered reply.verdict
  session_of (Open socket s) = Some s
  session_of _ = None

  -- the stream of a link that waits for its head, or replies to it, has not failed in its last call
  abbrev pub IsSound : State S → Type 0
  IsSound (Head stream bytes) = has_failed stream ≡ false
  IsSound (Replying stream reply) = has_failed stream ≡ false
  IsSound _ = ⊤

  -- nothing has asked for another turn: there is no work until the stream is ready or a message
  -- waits for the session
  abbrev pub is_idle : State S → Bool
  is_idle (Head stream bytes) = not (writer_inner stream.writer).wants_turn
  is_idle (Replying stream reply) = not (writer_inner stream.writer).wants_turn
  is_idle (Open socket s) = not (writer_inner socket.stream.writer).wants_turn
  is_idle (Closing socket turns) = not (writer_inner socket.stream.writer).wants_turn
  is_idle Gone = true

  -- the link is open, and its output buffer is corked and not empty
  abbrev pub has_corked_output : State S → Bool
  has_corked_output (Open socket s) =
      socket.stream.is_corked && not (length (writer_buffer socket.stream.writer) == 0)
  has_corked_output _ = false

-- the order of the stages
abbrev pub order : Stage → ℕ
order stage.Head = 0
order stage.Open = 1
order stage.Closing = 2
order stage.Gone = 3

-- the second stage is the first, or comes after it
abbrev pub IsForward : Stage → Stage → Type 0
IsForward old new = order old ≤ order new

-- whether a link that passes from the first stage to the second has a cause: a handshake that ends
-- without opening it, an open link that becomes closing or gone, a closing link that becomes gone
abbrev pub leaves : Stage → Stage → Bool
leaves stage.Head stage.Gone = true
leaves stage.Open stage.Closing = true
leaves stage.Open stage.Gone = true
leaves stage.Closing stage.Gone = true
leaves _ _ = false

-- a stage in which a link has no session
abbrev pub is_over : Stage → Bool
is_over stage.Closing = true
is_over stage.Gone = true
is_over _ = false

-- the cause of an end: none if the link was already gone
abbrev pub ended : Stage → Option EndCause
ended stage.Gone = None
ended _ = Some cause.Ended

-- The contract of a turn of a link.
use Rattle.std.specs.Prelude.{◌≡◌, ◌≤◌, ◌+◌, ℕ, List, [], Option, None, Some, true, min, is_some}
use Rattle.std.specs.Prelude.{length}
use Rattle.std.specs.List.{Contains}
use Rattle.relay_hub.specs.State.{State as Hub}
use Rattle.relay_hub.specs.declared.event.Event.TheVariants.{Close}
use Rattle.relay_link.specs.Adds.{receives, draws}
use Rattle.relay_link.specs.Asks.{asked_by, Receives}
use Rattle.relay_link.specs.Ends.{turns_left}
use Rattle.relay_link.specs.Follows.{Follows, at}
use Rattle.relay_link.specs.Hears.{PassesTexts}
use Rattle.relay_link.specs.Stops.{StopsIfOpen}
use Rattle.relay_link.specs.Stage.{stage_of, session_of, leaves, is_over, IsSound}
use Rattle.relay_link.specs.declared.end_cause.EndCause.TheVariants.{Silent}
use Rattle.relay_link.specs.declared.link.TheConstants.{MAX_DRAWS}
use Rattle.relay_link.specs.declared.event_log.TheConstants.{MAX_EVENTS}
use Rattle.relay_link.specs.declared.stage.Stage.TheVariants.{Closing, Gone}
use Rattle.relay_link.specs.declared.state.State.{State}
use Rattle.relay_link.specs.declared.turn.Turn.{Turn}

-- A turn from the hub and the link before it to those after it, with at most `texts` receives, and
-- at most `most` draws.
pub record Turns {S : Type 0} (remaining : S → Option (List ℕ)) (texts most : ℕ) (hub : Hub)
    (old : State S) (next : Hub) (new : State S) (turn : Turn) : Type 0 where
  -- the hub changed by exactly the events of the turn, which are the link's own; a session is
  -- opened only in the room that the head asks for, which is what the link had received, and then
  -- what one read took from its stream
  pub follows : Follows (asked_by remaining old) (at hub (session_of old) [])
      (at next (session_of new) turn.events.items)
  -- a link that still waits for its head has received exactly what its stream gave in the turn
  pub received : Receives remaining old new
  pub few : length turn.events.items ≤ MAX_EVENTS
  pub heard : receives turn.events.items ≤ texts
  -- the texts that the events pass to the hub are those that the link read, none while the hub may
  -- not hear its session, and the next turn reads on where this one stopped
  pub passes : PassesTexts remaining texts hub old new [] turn.events.items
  pub drew : draws turn.events.items ≤ min most MAX_DRAWS
  -- an open link draws until nothing waits for its session, it made as many draws as it may, its
  -- stream takes no output, or memory is refused
  pub stop : StopsIfOpen old new turn.stop (min most MAX_DRAWS) next [] turn.events.items
  -- a session that the link no longer has was closed
  pub closed : (s : ℕ) → session_of old ≡ Some s → session_of new ≡ None
      → Contains turn.events.items (Close s)
  pub over : is_over (stage_of new) ≡ true → session_of new ≡ None
  pub stage : turn.stage ≡ stage_of new
  pub cause : is_some turn.cause ≡ leaves (stage_of old) (stage_of new)
  -- a turn uses up one of those in which the other side may answer a close, and only when they are
  -- used up is it silent
  pub patient : stage_of new ≡ Closing → turns_left old ≤ turns_left new + 1
  pub silent : turn.cause ≡ Some Silent → turns_left old ≤ 1
  -- a link whose stream failed in the handshake neither waits nor goes on replying
  pub sound : IsSound old → IsSound new
  pub gone : stage_of old ≡ Gone → (turn.events.items ≡ []) × (new ≡ old)

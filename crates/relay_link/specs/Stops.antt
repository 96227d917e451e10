-- The cause for which a turn of an open link draws no more.
use Rattle.std.specs.Prelude.{◌≡◌, ◌+◌, ◌<◌, ℕ, true, List, Option, None, Some, option_map, IfSome}
use Rattle.std.specs.Prelude.{IsSomeAnd}
use Rattle.relay_hub.specs.Session.{waiting}
use Rattle.relay_hub.specs.State.{State as Hub, session_of}
use Rattle.relay_hub.specs.declared.event.Event.{Event}
use Rattle.tungstenite.specs.Socket.{Socket}
use Rattle.relay_link.specs.Adds.{draws}
use Rattle.relay_link.specs.Stream.{is_blocked}
use Rattle.relay_link.specs.declared.corked_writer.CorkedWriter.{CorkedWriter}
use Rattle.relay_link.specs.declared.draw_stop.DrawStop.{DrawStop}
use Rattle.relay_link.specs.declared.draw_stop.DrawStop.TheVariants.{Empty, Limit, Pending, Memory}
use Rattle.relay_link.specs.declared.state.State.{State}
use Rattle.relay_link.specs.declared.state.State.TheVariants.{Open}

-- no message waits for a session, if it is open at all
abbrev pub NothingWaits : Hub → ℕ → Type 0
NothingWaits hub s = IfSome (option_map waiting (session_of hub s)) (λ n. n ≡ 0)

-- it is open, and a message waits for it
abbrev pub SomethingWaits : Hub → ℕ → Type 0
SomethingWaits hub s = IsSomeAnd (option_map waiting (session_of hub s)) (λ n. 0 < n)

module _ {S : Type 0} where
  -- The facts that hold if the draws of session s, of which so many may be made, stopped for a
  -- reason: of the hub after them, of the events before and after, and of the socket. The stream of
  -- a socket is blocked if its last write or flush failed, be it for want of capacity.
  abbrev pub Stops : DrawStop → ℕ → ℕ → Hub → List Event → List Event → Socket (CorkedWriter S)
      → Type 0
  Stops Empty most s hub before after socket = NothingWaits hub s
  Stops Limit most s hub before after socket = draws after ≡ draws before + most
  Stops Pending most s hub before after socket = is_blocked socket.stream ≡ true
  Stops Memory most s hub before after socket = SomethingWaits hub s

  -- a link that is open after a turn has such a reason, and no other link has one
  abbrev pub StopsIn : State S → Option DrawStop → ℕ → Hub → List Event → List Event → Type 0
  StopsIn (Open socket s) (Some stop) most hub before after =
      Stops stop most s hub before after socket
  StopsIn (Open socket s) None most hub before after = ⊥
  StopsIn _ stop most hub before after = stop ≡ None

  -- The same of any turn: if it finds a link open and leaves it open, it drew until nothing
  -- waited, until it had made as many draws as it may, until the stream took no output, or until
  -- memory was refused for a message.
  abbrev pub StopsIfOpen : State S → State S → Option DrawStop → ℕ → Hub → List Event → List Event
      → Type 0
  StopsIfOpen (Open socket s) new stop most hub before after =
      StopsIn new stop most hub before after
  StopsIfOpen _ new stop most hub before after = stop ≡ None

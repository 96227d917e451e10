-- The answer of a link to a binary message, which a relay does not take: by a close with 1003 (RFC
-- 6455, section 7.4.1).
use Rattle.std.specs.Prelude.{◌≡◌, ⊤, ℕ, List, [], Option, Some, Result, IfErr}
use Rattle.tungstenite.specs.Socket.{Socket, Writes}
use Rattle.websocket.specs.Connection.{close_step}
use Rattle.websocket.specs.declared.protocol.frame.coding.CloseCode.{CloseCode}
use Rattle.websocket.specs.declared.protocol.frame.coding.CloseCode.TheVariants.{Unsupported}
use Rattle.relay_link.specs.Frames.{Frames}
use Rattle.relay_link.specs.Stream.{written}
use Rattle.relay_link.specs.declared.corked_writer.CorkedWriter.{CorkedWriter}
use Rattle.relay_link.specs.declared.end_cause.EndCause.{EndCause}
use Rattle.relay_link.specs.declared.end_cause.EndCause.TheVariants.{Binary}
use Rattle.relay_link.specs.declared.opened.Ending.{Ending}
use Rattle.relay_link.specs.declared.opened.Ending.TheVariants as ending
use Rattle.relay_link.specs.declared.state.State.{State}
use Rattle.relay_link.specs.declared.state.State.TheVariants.{Open, Closing}

module _ {S : Type 0} where
  -- The socket was told to close with this code and no reason, and nothing was framed since. So a
  -- close frame with the code is the last one, unless one went out before.
  pub record ClosedWith (contents : S → Option (List ℕ)) (code : CloseCode)
      (socket : Socket (CorkedWriter S)) : Type 0 where
    pub before : Socket (CorkedWriter S)
    pub closed : Socket (CorkedWriter S)
    pub wrote : Writes (written contents) before closed (close_step before.conn (Some (code, [])))
    pub quiet : Frames contents closed socket []

  -- if the result is that the link closes for a binary message, its socket was closed with 1003
  abbrev pub BinaryAnswered : {A : Type 0} → (S → Option (List ℕ)) → Result A Ending
      → Socket (CorkedWriter S) → Type 0
  BinaryAnswered contents turned socket =
      IfErr turned (λ e. e ≡ ending.Closing Binary → ClosedWith contents Unsupported socket)

  -- the same, stated of the link's new state and its cause
  abbrev pub BinaryAnsweredIn : (S → Option (List ℕ)) → State S → Option EndCause → Type 0
  BinaryAnsweredIn contents (Closing socket turns) (Some Binary) =
      ClosedWith contents Unsupported socket
  BinaryAnsweredIn contents new cause = ⊤

  -- the same, if the link was open before the turn
  abbrev pub BinaryAnsweredIfOpen : (S → Option (List ℕ)) → State S → State S → Option EndCause
      → Type 0
  BinaryAnsweredIfOpen contents (Open socket s) new cause = BinaryAnsweredIn contents new cause
  BinaryAnsweredIfOpen contents _ new cause = ⊤

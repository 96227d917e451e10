-- The close that answers a binary message, and what is sent behind it.
use Rattle.std.proofs.Common.{ℕ, List, [], Option, Some, Result, Ok, Err, OnOk, IfErr, refl}
use Rattle.websocket.specs.Connection.{close_step}
use Rattle.websocket.specs.declared.protocol.frame.coding.CloseCode.{CloseCode}
use Rattle.tungstenite.specs.declared.error.Error.{Error}
use Rattle.tungstenite.specs.Failure.{IsIo}
use Rattle.tungstenite.specs.Socket.{Socket, Writes}
use Rattle.relay_link.specs.BinaryAnswered.{ClosedWith, BinaryAnswered, BinaryAnsweredIn}
use Rattle.relay_link.specs.Ends.{settled}
use Rattle.relay_link.specs.Frames.{Frames}
use Rattle.relay_link.specs.Stream.{written}
use Rattle.relay_link.specs.declared.corked_writer.CorkedWriter.{CorkedWriter}
use Rattle.relay_link.specs.declared.draw_stop.DrawStop.{DrawStop}
use Rattle.relay_link.specs.declared.end_cause.EndCause.TheVariants.{Binary}
use Rattle.relay_link.specs.declared.opened.Ending.{Ending}
use Rattle.relay_link.specs.declared.opened.Ending.TheVariants as ending
use Rattle.relay_link.proofs.Telling.{frames_none, frames_more}

module _ {S : Type 0} (contents : S → Option (List ℕ)) where
  -- a call that closes, and sent all or had to wait or failed by its stream
  pub wrote_close : (code : CloseCode) (a b : Socket (CorkedWriter S))
      (sent : Result (Unit {0}) Error)
      → OnOk sent (Writes (written contents) a b (close_step a.conn (Some (code, []))))
      → IfErr sent (λ e. IsIo e
      → Writes (written contents) a b (close_step a.conn (Some (code, [])))) → IfErr sent IsIo
      → Writes (written contents) a b (close_step a.conn (Some (code, [])))
  wrote_close code a b (Ok u) wrote failed io = wrote
  wrote_close code a b (Err e) wrote failed io = failed io

  pub closed_now : (code : CloseCode) (a b : Socket (CorkedWriter S))
      → Writes (written contents) a b (close_step a.conn (Some (code, [])))
      → ClosedWith contents code b
  closed_now code a b wrote =
      record { before = a; closed = b; wrote = wrote; quiet = frames_none b b refl }

  -- what waited went out
  closed_then : (code : CloseCode) (a b : Socket (CorkedWriter S)) → ClosedWith contents code a
      → Frames contents a b [] → ClosedWith contents code b
  closed_then code a b closed sent = record {
    before = closed.before;
    closed = closed.closed;
    wrote = closed.wrote;
    quiet = frames_more [] [] closed.quiet sent;
  }

  pub answered_and_sent : {A : Type 0} (turned : Result A Ending) (a b : Socket (CorkedWriter S))
      → BinaryAnswered contents turned a → Frames contents a b [] → BinaryAnswered contents turned b
  answered_and_sent (Ok u) a b closed sent = tt
  answered_and_sent (Err e) a b closed sent = λ is. closed_then _ a b (closed is) sent

  pub answered_settled : (turned : Result DrawStop Ending) (socket : Socket (CorkedWriter S))
      (s : ℕ) → BinaryAnswered contents turned socket
      → BinaryAnsweredIn contents (settled turned socket s).state (settled turned socket s).cause
  answered_settled (Ok u) socket s closed = tt
  answered_settled (Err (ending.Closing Binary)) socket s closed = closed refl
  answered_settled (Err (ending.Closing cause)) socket s closed = tt
  answered_settled (Err (ending.Gone cause)) socket s closed = tt

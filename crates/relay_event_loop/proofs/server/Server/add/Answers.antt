-- The connection is added where there was none, and there was room for it.
use Rattle.std.proofs.Common.{refl, arith}
use Rattle.relay_event_loop.proofs.Held.{added, new_of, none_changed}
use Rattle.relay_event_loop.proofs.server.Server.add.Goals as goal

pub returns : goal.returns
returns g c = (
  (
    refl,
    added c.args.self.now.connections c.insert.new.self _ _ c.args.self.now.hub
        c.in_ok-insert.ensures.was_vacant c.in_ok-insert.ensures.updates
        (new_of c.in_ok-connection.ensures.0 _ c.in_ok-connection.ensures.2),
  ),
  refl,
  λ within.
      omega (arith, c.len.ensures, c.if-len-self.false, c.in_ok-insert.ensures.len),
)

pub returns-in_err-insert : goal.returns-in_err-insert
returns-in_err-insert g c =
    rw c.in_err-insert.ensures.err ((refl, none_changed), refl, λ within. within)

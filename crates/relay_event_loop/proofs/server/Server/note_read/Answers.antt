-- The link stays.
use Rattle.std.proofs.Common.{refl, sym}
use Rattle.relay_event_loop.proofs.Held.{woken, no_more}
use Rattle.relay_event_loop.proofs.server.Server.note_read.Goals as goal

pub returns : goal.returns
returns g c = (
  (
    refl,
    woken c.args.self.now.connections c.args.key c.in-Some.connection.now _
        (sym c.in-Some.ensures.value) _ c.note_read.ensures,
  ),
  refl,
  no_more c.args.self.now.connections c.args.key c.in-Some.connection.now _
      (sym c.in-Some.ensures.value),
)

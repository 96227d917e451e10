-- The link makes a turn, or nothing changes.
use Rattle.std.proofs.Common.{sym}
use Rattle.relay_event_loop.proofs.Advancing.{advances_then}
use Rattle.relay_event_loop.proofs.Held.{ended, unmoved, no_more, no_more_then}
use Rattle.relay_event_loop.proofs.server.Server.end_link.Goals as goal

pub returns : goal.returns
returns g c = (
  (
    c.finish_turn.ensures.0.0,
    advances_then (ended c.args.self.now.connections c.args.key c.in-Some.connection.now _
        (sym c.in-Some.ensures.value) _ _ _ c.in-Ok.ensures.follows c.in-Ok.ensures.closes
        c.in-Ok.ensures.gone) c.finish_turn.ensures.0.1,
  ),
  c.finish_turn.ensures.1,
  no_more_then _ _ _ c.finish_turn.ensures.2
      (no_more c.args.self.now.connections c.args.key c.in-Some.connection.now _
      (sym c.in-Some.ensures.value)),
)

pub returns-in_default-end : goal.returns-in_default-end
returns-in_default-end g c = (
  (
    c.shed.ensures.keeps.0.0,
    advances_then (unmoved c.args.self.now.connections c.args.key c.in-Some.connection.now
        _ (sym c.in-Some.ensures.value) _ _ c.in_default-end.ensures.hub_unchanged
        c.in_default-end.ensures.unchanged) c.shed.ensures.keeps.0.1,
  ),
  c.shed.ensures.keeps.1,
  no_more_then _ _ _ c.shed.ensures.keeps.2
      (no_more c.args.self.now.connections c.args.key c.in-Some.connection.now _
      (sym c.in-Some.ensures.value)),
)

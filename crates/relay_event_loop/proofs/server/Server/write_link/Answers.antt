-- The link makes a turn, or nothing changes.
use Rattle.std.proofs.Common.{sym, inl}
use Rattle.relay_link.proofs.Hearing.{passes_wider}
use Rattle.relay_link.specs.EntryRules.{none_denied}
use Rattle.relay_event_loop.proofs.Advancing.{advances_then}
use Rattle.relay_event_loop.proofs.Held.{turned, unmoved, no_more, no_more_then}
use Rattle.relay_event_loop.proofs.server.Server.write_link.Goals as goal

pub returns : goal.returns
returns g c = (
  (
    c.finish_turn.ensures.0.0,
    advances_then (turned c.args.self.now.connections c.args.key c.in-Some.connection.now _
        (sym c.in-Some.ensures.value) _ _ _ none_denied c.in-Ok.ensures.turns.follows
        c.in-Ok.ensures.turns.received
        (passes_wider _ c.args.self.now.hub _ _ _ _ c.in-Ok.ensures.turns.passes)
        (inl c.in-Ok.ensures.frames) c.in-Ok.ensures.replies)
        c.finish_turn.ensures.0.1,
  ),
  c.finish_turn.ensures.1,
  no_more_then _ _ _ c.finish_turn.ensures.2
      (no_more c.args.self.now.connections c.args.key c.in-Some.connection.now _
      (sym c.in-Some.ensures.value)),
)

pub returns-in_default-write_turn : goal.returns-in_default-write_turn
returns-in_default-write_turn g c = (
  (
    c.shed.ensures.keeps.0.0,
    advances_then (unmoved c.args.self.now.connections c.args.key c.in-Some.connection.now
        _ (sym c.in-Some.ensures.value) _ _ c.in_default-write_turn.ensures.hub_unchanged
        c.in_default-write_turn.ensures.unchanged) c.shed.ensures.keeps.0.1,
  ),
  c.shed.ensures.keeps.1,
  no_more_then _ _ _ c.shed.ensures.keeps.2
      (no_more c.args.self.now.connections c.args.key c.in-Some.connection.now _
      (sym c.in-Some.ensures.value)),
)

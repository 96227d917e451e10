-- The link makes a turn, or nothing changes.
use Rattle.std.proofs.Common.{refl, sym, inr}
use Rattle.relay_link.specs.EntryRules.{denial}
use Rattle.relay_event_loop.proofs.Held.{turned, unmoved, no_more, none_drawn}
use Rattle.relay_event_loop.proofs.server.Server.read_turn.Goals as goal

pub returns-clause-keeps : goal.returns-clause-keeps
returns-clause-keeps g c = (
  (
    refl,
    turned c.args.self.now.connections c.args.key c.in-Some-get_mut.connection.now _
        (sym c.in-Some-get_mut.ensures.value) _ _ _
        (denial c.args.self.now.rules c.args.self.now.hub) c.in-Ok.ensures.turns.follows
        c.in-Ok.ensures.turns.received c.in-Ok.ensures.turns.passes
        (inr c.in-Ok.ensures.frames) c.in-Ok.ensures.replies,
  ),
  refl,
  no_more c.args.self.now.connections c.args.key c.in-Some-get_mut.connection.now _
      (sym c.in-Some-get_mut.ensures.value),
)

pub returns-clause-untold : goal.returns-clause-untold
returns-clause-untold g c = λ tells.
    none_drawn _ _ _ (c.in-Some.ensures.untold tells) c.in-Ok.ensures.turns.drew

pub returns-in_default-read_turn-clause-keeps : goal.returns-in_default-read_turn-clause-keeps
returns-in_default-read_turn-clause-keeps g c = (
  (
    refl,
    unmoved c.args.self.now.connections c.args.key c.in-Some-get_mut.connection.now
        _ (sym c.in-Some-get_mut.ensures.value) _ _ c.in_default-read_turn.ensures.hub_unchanged
        c.in_default-read_turn.ensures.unchanged,
  ),
  refl,
  no_more c.args.self.now.connections c.args.key c.in-Some-get_mut.connection.now _
      (sym c.in-Some-get_mut.ensures.value),
)

-- The connection that has its turn is the next of those before, and what it asks is noted.
use Rattle.std.proofs.Common.{◌<◌, ◌≤◌, arith, IsTrue, ◌∙◌, refl, subst}
use Rattle.relay_operator.proofs.Asking.{asks_next, stop_only, open_only}
use Rattle.relay_operator.proofs.Holding.{drop_next}
use Rattle.relay_operator.proofs.Turning.{serves_all, serves_next}
use Rattle.relay_operator.specs.Port.{is_stop, is_open}
use Rattle.relay_operator.specs.Turning.{none}
use Rattle.relay_admin.specs.declared.request.AdminRequest.TheVariants.{Open, Stop}
use Rattle.relay_operator.proofs.admin_port.AdminPort.turn_each.Goals as goal

pub loop-turn-init : goal.loop-turn-init
loop-turn-init g c = record {
  index = omega arith;
  untouched = refl;
  serves = none;
  stopping = λ is. absurd (cc is);
  opening = λ is. absurd (cc is);
  counters = refl;
}

pub loop-turn-preserved : goal.loop-turn-preserved
loop-turn-preserved g c =
    let before = c.loop-turn.invariant in
    let old = c.args.self.now.connections.items in
    let now = c.loop-turn.self.connections.items in
    record {
      index = omega (arith, c.next_after-index.ensures.next, before.index);
      untouched =
          c.next_after-index.ensures.behind ∙ c.turn_at-found.ensures.others.behind
          ∙ drop_next old now c.loop-turn.index c.loop-turn._turn before.untouched;
      serves =
          serves_next g.L.Stream.Read.remaining g.L.Stream.Write.contents c.args.view.now
          c.args.self.now.counters c.loop-turn.self.counters c.loop-turn.turn c.note.new.self
          c.turn_at-found.result old now
          c.turn_at-found.new.self.connections.items c.next_after-index.new.self.connections.items
          c.loop-turn.index c.loop-turn._turn c.next_after-index.result before.counters
          c.note.ensures
          (subst (λ n. c.loop-turn._turn < n)
          (c.len-turn-end.ensures ∙ c.args.self.now.connections.ok.0) c.loop-turn-test.true)
          before.untouched c.turn_at-found.ensures.others before.serves
          c.turn_at-found.ensures.serves c.turn_at-found.ensures.stays
          c.next_after-index.ensures.before;
      stopping = λ stops.
          asks_next g.L.Stream.Read.remaining Stop is_stop stop_only old now
          c.loop-turn.index c.loop-turn._turn c.turn_at-found.result.1 c.loop-turn.turn.is_stopping
          before.untouched c.turn_at-found.ensures.asks before.stopping
          (subst (λ t. IsTrue t.is_stopping) c.note.ensures stops);
      opening = λ opens.
          asks_next g.L.Stream.Read.remaining Open is_open open_only old now
          c.loop-turn.index c.loop-turn._turn c.turn_at-found.result.1 c.loop-turn.turn.is_opening
          before.untouched c.turn_at-found.ensures.asks before.opening
          (subst (λ t. IsTrue t.is_opening) c.note.ensures opens);
      counters =
          c.next_after-index.ensures.counters ∙ c.turn_at-found.ensures.counters
          ∙ before.counters;
    }

pub returns-clause-serves : goal.returns-clause-serves
returns-clause-serves g c =
    serves_all g.L.Stream.Read.remaining g.L.Stream.Write.contents c.args.view.now
    c.args.self.now.counters c.loop-turn.turn c.args.self.now.connections.items
    c.loop-turn.self.connections.items
    c.loop-turn.index c.loop-turn._turn
    (subst (λ n. n ≤ c.loop-turn._turn)
    (c.len-turn-end.ensures ∙ c.args.self.now.connections.ok.0) c.loop-turn-test.false)
    c.loop-turn.invariant.untouched c.loop-turn.invariant.serves

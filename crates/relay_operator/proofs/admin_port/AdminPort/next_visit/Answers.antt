-- A pass gave a response to the first that wanted a visit.
use Rattle.std.proofs.Common.{Ok, Err, refl, sym, subst, ◌∙◌}
use Rattle.relay_operator.specs.Answering.{PreparesAt, none}
use Rattle.relay_operator.proofs.Giving.{answers_next, some_visits}
use Rattle.relay_operator.proofs.admin_port.AdminPort.next_visit.Goals as goal
use Rattle.relay_operator.proofs.admin_port.AdminPort.next_visit.Goals.{in-Ok-Response, in-Err}

pub loop-init : goal.loop-init
loop-init g c = none c.args.self.now.connections.items

pub loop-preserved : goal.loop-preserved
loop-preserved g c = elim c.match-prepare_at.branch [
  | in-Ok-Response w ↦ rw w.self-is
      (answers_next g.L.Stream.Write.contents c.args.hub.now c.loop.counter c.in-Some.index
      (Ok w.in-Ok-Response.reply) c.args.self.now.connections.items c.loop.self.connections.items _
      c.loop.invariant (sym c.first_to.ensures ∙ c.in-Some.is) (
        w.in-Ok-Response.reply,
        refl,
        subst (PreparesAt c.args.hub.now c.loop.self.connections.items c.in-Some.index)
            w.in-Ok-Response.field-0-is (rw w.in-Ok-Response.is at c.prepare_at.ensures),
      )
      w.answer_at.ensures)
  | in-Err w ↦ rw w.self-is
      (answers_next g.L.Stream.Write.contents c.args.hub.now c.loop.counter c.in-Some.index
      (Err (record {})) c.args.self.now.connections.items c.loop.self.connections.items _
      c.loop.invariant (sym c.first_to.ensures ∙ c.in-Some.is) tt w.answer_at-in-Err.ensures)
]

pub returns-in-Ok-Visit-clause-some : goal.returns-in-Ok-Visit-clause-some
returns-in-Ok-Visit-clause-some g c =
    some_visits c.args.hub.now c.loop.self.connections.items c.in-Some.index c.in-Ok-Visit.visit
    (rw c.in-Ok-Visit.field-0-is at c.in-Ok-Visit.ensures)

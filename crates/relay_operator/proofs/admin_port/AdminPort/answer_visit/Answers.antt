-- The first that wants a visit gets the response.
use Rattle.std.proofs.Common.{sym, ◌∙◌}
use Rattle.relay_operator.specs.Answering.{SaysVisited, asked_at}
use Rattle.relay_operator.proofs.Giving.{answers_first}
use Rattle.relay_operator.proofs.admin_port.AdminPort.answer_visit.Goals as goal

pub returns : goal.returns
returns g c =
    answers_first g.L.Stream.Write.contents c.in-Some.index (λ index.
    SaysVisited c.args.hub.now (asked_at index c.args.self.now.connections.items) c.args.came)
    c.visited_at-reply.result _ _ _ (sym c.first_to.ensures ∙ c.in-Some.is)
    c.visited_at-reply.ensures c.answer_at.ensures

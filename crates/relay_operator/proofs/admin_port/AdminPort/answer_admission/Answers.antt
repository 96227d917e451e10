-- The first that asks for the way into a room gets the response.
use Rattle.std.proofs.Common.{sym, ◌∙◌}
use Rattle.relay_operator.specs.Answering.{SaysAdmitted, asked_at}
use Rattle.relay_operator.specs.declared.room_request.Kind.TheVariants as kind
use Rattle.relay_operator.proofs.Giving.{answers_first, first_asks_not, says_admitted_at}
use Rattle.relay_operator.proofs.admin_port.AdminPort.answer_admission.Goals as goal

pub unreachable-requires : goal.unreachable-requires
unreachable-requires g c =
    first_asks_not kind.Admission c.args.self.now.connections.items c.in-Some.index
    (sym c.first_to.ensures ∙ c.in-Some.is) c.in_default-admission_at.ensures.none

pub returns : goal.returns
returns g c =
    let held = c.args.self.now.connections.items in
    answers_first g.L.Stream.Write.contents c.in-Some.index
    (λ index. SaysAdmitted (asked_at index held) c.args.came) c.response_text-reply.result _ _ _
    (sym c.first_to.ensures ∙ c.in-Some.is)
    (says_admitted_at c.in-Some.index held c.response_text-reply.result
    c.in-Some-admission_at.asked c.args.came c.response.result c.in-Some-admission_at.ensures.at
    c.response.ensures c.response_text-reply.ensures) c.answer_at.ensures

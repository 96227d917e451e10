-- The first that asks for a room to be forgotten gets the response.
use Rattle.std.proofs.Common.{sym, subst, ◌≡◌, ◌∙◌, IfOk, string_bytes}
use Rattle.relay_admin.specs.Responses.{response_text}
use Rattle.relay_operator.specs.Answering.{SaysForgotten}
use Rattle.relay_operator.proofs.Giving.{answers_first}
use Rattle.relay_operator.proofs.admin_port.AdminPort.answer_forget.Goals as goal

pub returns : goal.returns
returns g c =
    answers_first g.L.Stream.Write.contents c.in-Some.index (λ index. SaysForgotten c.args.came)
    c.response_text-reply.result _ _ _ (sym c.first_to.ensures ∙ c.in-Some.is)
    (subst (λ r. IfOk c.response_text-reply.result (λ text. string_bytes text ≡ response_text r))
    c.forgotten.ensures c.response_text-reply.ensures) c.answer_at.ensures

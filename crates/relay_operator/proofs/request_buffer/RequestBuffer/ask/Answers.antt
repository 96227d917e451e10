-- A request for a room is noted as the bytes say it, and nothing else is.
use Rattle.std.proofs.Common.{refl, sym, subst, ◌∙◌}
use Rattle.relay_operator.specs.Request.{Answers}
use Rattle.relay_operator.proofs.Noting.{answers_all, notes_other, notes_request, said}
use Rattle.relay_operator.proofs.request_buffer.RequestBuffer.ask.Goals as goal
use Rattle.relay_operator.proofs.request_buffer.RequestBuffer.ask.Goals.{In_ok-answer}

-- the answer is that to all bytes held
answered : (c : In_ok-answer) → Answers c.self.inside.bytes.items c.in_ok-answer.answer
answered c =
    let answer = c.in_ok-answer.answer in
    let said = c.in_ok-answer.ensures in
    subst (λ bytes. Answers bytes answer) c.as_slice.ensures.value
    (answers_all _ answer said.admits said.head said.no_head said.body)

pub invariant_of-self : goal.invariant_of-self
invariant_of-self c =
    said c.self.inside.bytes.items c.in_ok-answer.answer c.in-Ok.request
    (answered (goal.at.invariant_of-self c).In_ok-answer) (sym c.of.ensures ∙ c.in-Ok.is)

pub returns-in-Ok : goal.returns-in-Ok
returns-in-Ok c =
    notes_request _ _ _ c.in_ok-answer.answer c.in-Ok.request c.self.view_is
    (answered (goal.at.returns-in-Ok c).In_ok-answer) (sym c.of.ensures ∙ c.in-Ok.is) refl

pub returns-in-Err : goal.returns-in-Err
returns-in-Err c =
    notes_other _ _ c.in_ok-answer.answer c.in-Err.answer c.self.view_is
    (answered (goal.at.returns-in-Err c).In_ok-answer) (sym c.of.ensures ∙ c.in-Err.is)

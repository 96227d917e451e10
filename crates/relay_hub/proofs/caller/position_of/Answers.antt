use Rattle.std.proofs.Common.{sym, ◌∙◌, ap}
use Rattle.relay_hub.proofs.Rising.{found_there, found_nowhere, found_past}
use Rattle.relay_hub.proofs.caller.position_of.Goals as goal

pub returns-in_err-session : goal.returns-in_err-session
returns-in_err-session c =
    c.from_residual.ensures
    ∙ sym (found_past c.args.sessions.now c.args.number c.index_from-index.result
    c.index_from-index.ensures c.requires c.in_err-session.ensures.lookup.3)

pub returns-then-number : goal.returns-then-number
returns-then-number c =
    let at = c.in_ok-session.ensures.lookup in
    sym (found_there c.args.sessions.now c.args.number c.index_from-index.result
    c.in_ok-session.session.now c.index_from-index.ensures at.3.0
    (ap (λ x. x.number) (sym at.1) ∙ (sym c.number.ensures ∙ c.if-number.true)))

pub returns-else-number : goal.returns-else-number
returns-else-number c =
    let at = c.in_ok-session.ensures.lookup in
    sym (found_nowhere c.args.sessions.now c.args.number c.index_from-index.result
    c.in_ok-session.session.now c.index_from-index.ensures c.requires
    (λ within is. c.if-number.false (c.number.ensures ∙ (ap (λ x. x.number) at.1 ∙ is))))

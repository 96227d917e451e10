use Rattle.std.proofs.Common.{subst}
use Rattle.relay_access.specs.declared.access.Access.TheVariants.{ReadWrite}
use Rattle.relay_hub.specs.Step.{Step}
use Rattle.relay_hub.specs.declared.event.Answer.TheVariants as answer
use Rattle.relay_hub.specs.declared.event.Event.TheVariants as event
use Rattle.relay_hub.specs.declared.event.Heard.TheVariants.{Answered}
use Rattle.relay_keeping.specs.LeftWills.{kept_will}
use Rattle.relay_keeping.proofs.LastWills.{done_by}
use Rattle.relay_keeping.proofs.last_wills.do_left.Goals as goal

pub returns : goal.returns
returns c = λ session.
    let o = c.in_ok-opening.opening in
    let heard = c.in_ok-receive.field-0 in
    let old = c.args.hub.now in
    let opened = c.open.new.hub in
    let left = c.receive.new.hub in
    done_by (kept_will (session, c.args.will.now)) o heard c.in_ok-do_next.field-0 old opened left
    c.close.new.hub c.do_next.new.hub
    (subst (λ room. Step old (event.Open room ReadWrite) (answer.Opened o) opened)
    c.as_str.ensures.value c.in_ok-opening.ensures)
    (subst (λ text. Step opened (event.Receive o.session text) (answer.Heard (Answered heard)) left)
    c.as_str-2.ensures.value c.in_ok-receive.ensures)
    c.in_ok-close.ensures c.in_ok-do_next.ensures

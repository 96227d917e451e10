use Rattle.std.proofs.Common.{◌∙◌, refl, sym, arith}
use Rattle.relay_hub.proofs.Admissions.{unpaid_here, unpaid_later, all_paid}
use Rattle.relay_hub.proofs.admission.unpaid_slot.Goals as goal

pub loop-at-init : goal.loop-at-init
loop-at-init c = refl

pub returns-in-None : goal.returns-in-None
returns-in-None c =
    sym (unpaid_here c.args.view.now c.loop-at.at c.loop-at.left c.in-Some.pointer.now
    c.in-Some.ensures c.in-None.ensures) ∙ c.loop-at.invariant

pub loop-at-preserved : goal.loop-at-preserved
loop-at-preserved c =
    sym (unpaid_later c.args.view.now c.loop-at.at c.loop-at.left c.in-Some-pay.rest
    c.in-Some.pointer.now c.in-Some.ensures c.in-Some-pay.ensures) ∙ c.loop-at.invariant

pub returns : goal.returns
returns c =
    sym (all_paid c.args.view.now c.loop-at.at c.loop-at.left (omega (
      arith,
      c.loop-at-test.false,
      c.len-at-end.ensures,
    ))) ∙ c.loop-at.invariant

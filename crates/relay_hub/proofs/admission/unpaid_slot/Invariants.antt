use Rattle.std.proofs.Common.{◌≡◌, drop}
use Rattle.relay_hub.specs.Admitted.{unpaid_slot}
use Rattle.relay_hub.proofs.admission.unpaid_slot.Given as goal

abbrev pub invariant-loop-at : goal.invariant-loop-at
invariant-loop-at l = unpaid_slot l.at l.left (drop l.at l.view) ≡ unpaid_slot 0 l.fn.budget l.view

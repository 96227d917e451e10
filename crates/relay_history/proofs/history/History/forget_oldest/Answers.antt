use Rattle.relay_history.proofs.Weights.{kept_without_oldest}
use Rattle.relay_history.proofs.history.History.forget_oldest.Goals as goal

pub invariant_of-self : goal.invariant_of-self
invariant_of-self c =
    rw (c.pop_back-oldest.ensures.items, c.weight_of.ensures, c.pop_back-oldest.ensures.value)
    (kept_without_oldest c.self.inside c.self.invariant)

-- Whoever is taken out of a line stands in none.
use Rattle.relay_schedule.specs.Representation.{lines_of}
use Rattle.relay_schedule.proofs.Lines.{lines_without_credited}
use Rattle.relay_schedule.proofs.ready_queue.ReadyQueue.pop_credited.Goals as goal

pub invariant_of-self : goal.invariant_of-self
invariant_of-self c =
    rw c.pop.ensures.rest (lines_without_credited (lines_of c.self.inside) c.self.invariant)

-- Whoever is taken out of a line stands in none.
use Rattle.std.proofs.Common.{arith}
use Rattle.relay_schedule.specs.Representation.{lines_of}
use Rattle.relay_schedule.proofs.Lines.{lines_with_fewer_light, lines_with_fewer_heavy}
use Rattle.relay_schedule.proofs.ready_queue.ReadyQueue.pop_owing.Goals as goal

pub invariant_of-self : goal.invariant_of-self
invariant_of-self c =
    rw c.pop.ensures.rest
    (lines_with_fewer_light (lines_of c.self.inside) _
    (omega (arith, c.saturating_sub-self-inside.ensures)) c.self.invariant)

pub invariant_of-self-in-Heavy : goal.invariant_of-self-in-Heavy
invariant_of-self-in-Heavy c =
    rw c.pop-in-Heavy.ensures.rest
    (lines_with_fewer_heavy (lines_of c.self.inside) _
    (omega (arith, c.saturating_sub-self-inside-in-Heavy.ensures)) c.self.invariant)

-- A pass moves keys within a line.
use Rattle.relay_schedule.specs.Representation.{lines_of}
use Rattle.relay_schedule.proofs.Lines.{lines_in_owing_pass}
use Rattle.relay_schedule.proofs.ready_queue.ReadyQueue.begin_owing_pass.Goals as goal

pub invariant_of-self : goal.invariant_of-self
invariant_of-self c =
    rw (c.begin_pass.ensures, c.begin_pass-2.ensures)
    (lines_in_owing_pass (lines_of c.self.inside) c.self.invariant)

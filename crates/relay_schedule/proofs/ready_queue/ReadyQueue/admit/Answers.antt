-- A line that admits a key keeps those that stand in it.
use Rattle.std.proofs.Common.{refl}
use Rattle.relay_schedule.specs.Representation.{lines_of}
use Rattle.relay_schedule.proofs.Lines.{lines_with_same}
use Rattle.relay_schedule.proofs.ready_queue.ReadyQueue.admit.Goals as goal

pub invariant_of-self-in_err-admit-2 : goal.invariant_of-self-in_err-admit-2
invariant_of-self-in_err-admit-2 c =
    lines_with_same (lines_of c.self.inside) c.admit.new.self c.admit-2.new.self
    c.self.inside.heavy c.self.invariant (c.admit.ensures.waiting, c.admit.ensures.served)
    (c.admit-2.ensures.waiting, c.admit-2.ensures.served) (refl, refl)

pub invariant_of-self-2 : goal.invariant_of-self-2
invariant_of-self-2 c =
    lines_with_same (lines_of c.self.inside) c.admit.new.self c.admit-2.new.self c.admit-3.new.self
    c.self.invariant (c.admit.ensures.waiting, c.admit.ensures.served)
    (c.admit-2.ensures.waiting, c.admit-2.ensures.served)
    (c.admit-3.ensures.waiting, c.admit-3.ensures.served)

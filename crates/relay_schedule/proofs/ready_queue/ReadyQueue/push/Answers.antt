-- Whoever stands in no line may stand in any.
use Rattle.std.proofs.Common.{◌∙◌, sym, ap}
use Rattle.relay_schedule.specs.Ready.{stands}
use Rattle.relay_schedule.specs.Representation.{lines_of}
use Rattle.relay_schedule.proofs.Lines.{lines_with_credited, lines_with_light, lines_with_heavy}
use Rattle.relay_schedule.proofs.ready_queue.ReadyQueue.push.Goals as goal

pub invariant_of-self : goal.invariant_of-self
invariant_of-self c =
    let none = ap (stands c.args.key) c.self.view_is ∙ sym c.contains.ensures
    ∙ c.if-contains.false in
    rw c.push.ensures.behind_all
    (lines_with_credited c.args.key (lines_of c.self.inside) none c.self.invariant)

pub invariant_of-self-then-credit : goal.invariant_of-self-then-credit
invariant_of-self-then-credit c =
    let none = ap (stands c.args.key) c.self.view_is ∙ sym c.contains.ensures
    ∙ c.if-contains.false in
    rw c.push-then-credit.ensures.behind_all
    (lines_with_heavy c.args.key (lines_of c.self.inside) none c.self.invariant)

pub invariant_of-self-else-credit : goal.invariant_of-self-else-credit
invariant_of-self-else-credit c =
    let none = ap (stands c.args.key) c.self.view_is ∙ sym c.contains.ensures
    ∙ c.if-contains.false in
    rw c.push-else-credit.ensures.behind_all
    (lines_with_light c.args.key (lines_of c.self.inside) none c.self.invariant)

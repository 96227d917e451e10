-- The laws follow from the age of the present stretch.
use Rattle.std.proofs.Common.{◌≡◌, ◌∙◌, ◌<◌, ◌-◌, arith, nat_le, nat_lt, true}
use Rattle.std.proofs.lemmas.Bool.Decides.{nat_tests}
use Rattle.relay_schedule.specs.Output.{is_over_due}
use Rattle.relay_schedule.proofs.Pace.{not_over_due, over_due_by_age}
use Rattle.relay_schedule.proofs.output.LinkOutput.is_over_due.Goals as goal

pub returns-then-self-gt0-clause-took_enough : goal.returns-then-self-gt0-clause-took_enough
returns-then-self-gt0-clause-took_enough c before turns from is same are enough some soon =
    let waits : 0 < c.args.self.unsent = grind (arith, nat_tests, c.if-self-gt0.true) in
    let recent : nat_lt (c.args.second - c.args.self.began) c.args.patience ≡ true =
    rw same
    (not_over_due before turns from c.args.second c.args.patience is are enough (rw same at waits)
    some soon) in
    grind (arith, nat_tests, recent, c.saturating_sub.ensures)

pub returns-then-self-gt0-clause-took_little : goal.returns-then-self-gt0-clause-took_little
returns-then-self-gt0-clause-took_little c begin turns is due same little =
    let exact : nat_le c.args.patience c.saturating_sub.result
    ≡ is_over_due c.args.self c.args.second c.args.patience =
    grind (arith, nat_tests, c.if-self-gt0.true, c.saturating_sub.ensures) in
    exact ∙ rw same (over_due_by_age begin turns c.args.second c.args.patience is due little)

pub returns-else-self-gt0-clause-took_little : goal.returns-else-self-gt0-clause-took_little
returns-else-self-gt0-clause-took_little c begin turns is due same little =
    let exact : nat_lt 0 c.args.self.unsent
    ≡ is_over_due c.args.self c.args.second c.args.patience =
    grind (arith, nat_tests, c.if-self-gt0.false) in
    exact ∙ rw same (over_due_by_age begin turns c.args.second c.args.patience is due little)

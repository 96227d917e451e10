-- A run of the loop is a run of a script whose events have any of the outcomes that sockets can
-- give.
use Rattle.std.proofs.lemmas.Result.{err_from_is_err_and}
use Rattle.std.proofs.Common.{ℕ, List, ap}
use Rattle.std.specs.Prelude.{⊤}
use Rattle.relay_script.specs.Representation.{clients_of, stage_of}
use Rattle.relay_script.specs.Script.{Stage, stage, Answers}
use Rattle.relay_script.specs.declared.script.Script.{Script}
use Rattle.relay_script.proofs.ScriptLemmas.{answers_seen}
use Rattle.relay_loopback.specs.Loopback.{CanCome, Comes, Tells, LoopbackAnswers}
use Rattle.relay_loopback.specs.declared.loopback.Loopback.{Loopback}
use Rattle.relay_loopback.proofs.Outcomes.{can_come}
use Rattle.relay_server.proofs.JobLemmas.{ended_apart, loop_ran}
use Rattle.relay_server.proofs.jobs.answer_lines.Goals as goal

-- the state of such a script, without its transport: its names
abbrev see : {T : Type 0} → Script T → Stage ⊤
see s = stage tt (clients_of s.clients)

as_seen : {N L S : Type 0} (old new : Script (Loopback N L S)) (number : ℕ) (line answer : List ℕ)
    → Answers Comes Tells (stage_of old) number line (stage_of new) answer
    → LoopbackAnswers (see old) number line (see new) answer
as_seen old new number line answer h =
    answers_seen Comes Tells (λ before event came after. CanCome event came)
    (λ before session shown. ⊤) (λ _. tt) can_come (λ _ _ _ _. tt) (stage_of old) (stage_of new)
    number line answer h

pub returns-in_err-run_lines-clause-ends : goal.returns-in_err-run_lines-clause-ends
returns-in_err-run_lines-clause-ends g c =
    let p = err_from_is_err_and c.from_residual.result c.from_residual.ensures.1 in
    let run = c.run_lines.ensures in
    let ran =
    loop_ran _ see c.new.result _ _ _ _ c.run_lines.result (ap (λ s.
    stage tt s.clients) c.new.ensures) (λ old new number line answer h.
    as_seen old new number line answer h) run.done run.read run.stopped run.limits in
    rw (p.1, p.2) (rw c.in_err-run_lines.was at ran)

pub returns-clause-ends : goal.returns-clause-ends
returns-clause-ends g c =
    let run = c.run_lines.ensures in
    let ran =
    loop_ran _ see c.new.result _ _ _ _ c.run_lines.result (ap (λ s.
    stage tt s.clients) c.new.ensures) (λ old new number line answer h.
    as_seen old new number line answer h) run.done run.read run.stopped run.limits in
    rw c.in_ok-run_lines.was at ran

pub returns-in_err-run_lines-clause-limits : goal.returns-in_err-run_lines-clause-limits
returns-in_err-run_lines-clause-limits g c =
    let p = err_from_is_err_and c.from_residual.result c.from_residual.ensures.1 in
    rw (p.1, p.2) (ended_apart _ c.in_err-run_lines.ensures.limits)

-- A run of `Script` is a run of its stages.
use Rattle.std.proofs.Common.{◌≢◌, List, [], Option, ℕ, refl, ap, ◌∙◌}
use Rattle.std.proofs.lemmas.Result.{err_from_is_err_and}
use Rattle.relay_hub.specs.declared.fault.HubNewFault.{HubNewFault}
use Rattle.relay_hub.specs.declared.fault.HubNewFault.TheVariants as hub_fault
use Rattle.relay_script.specs.Faults.{not_made}
use Rattle.relay_script.specs.Representation.{stage_of}
use Rattle.relay_script.specs.Respond.{Answering, AnswersSome}
use Rattle.relay_script.specs.Script.{stage, HubAnswers}
use Rattle.relay_script.specs.declared.fault.ScriptFault.TheVariants.{BadLimit}
use Rattle.relay_script.proofs.RunLemmas.{if_fault, AnswersSome-none, done_seen, stopped_seen}
use Rattle.relay_script.proofs.complete_run.run_script.Goals as goal

-- if the hub could not be created, nothing was written
unmade : {S : Type 0} (answers : Answering S) (from : S) (input old : Option (List ℕ))
    (fault : HubNewFault) → not_made fault ≢ BadLimit
    → AnswersSome answers (not_made fault) from input old old
unmade answers from input old hub_fault.BadLimit other = absurd (other refl)
unmade answers from input old hub_fault.NoMemory other = AnswersSome-none answers from input old

pub returns-in_err-hub-clause-stopped : goal.returns-in_err-hub-clause-stopped
returns-in_err-hub-clause-stopped g c =
    let p = err_from_is_err_and c.from_residual.result c.from_residual.ensures.1 in
    rw (p.1, p.2) (λ other. unmade HubAnswers _ _ _ _ other)

pub returns-clause-done : goal.returns-clause-done
returns-clause-done g c =
    let begins = c.new.ensures ∙ ap (λ h. stage h []) c.in_ok-hub.ensures.empty in
    done_seen _ HubAnswers stage_of (λ _ _ _ _ _ h.
    h) c.run_lines.result c.new.result begins _ _ _ c.run_lines.ensures.done

pub returns-clause-stopped : goal.returns-clause-stopped
returns-clause-stopped g c =
    let begins = c.new.ensures ∙ ap (λ h. stage h []) c.in_ok-hub.ensures.empty in
    let some = stopped_seen _ HubAnswers stage_of (λ _ _ _ _ _ h.
    h) c.run_lines.result c.new.result begins _ _ _ c.run_lines.ensures.stopped in
    if_fault c.run_lines.result (λ fault stopped _. stopped) some

-- a run over a hub that was made has no such fault
pub returns-clause-untouched : goal.returns-clause-untouched
returns-clause-untouched g c =
    if_fault c.run_lines.result (λ fault other is. absurd (other is)) c.run_lines.ensures.limits

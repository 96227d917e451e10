-- Lemmas about the ends of jobs.
use Rattle.std.proofs.Common.{◌≡◌, ◌≢◌, ◌↔◌, ◌⊎◌, inl, inr, ℕ, List, Option, Result, Ok, Err, OnOk}
use Rattle.std.proofs.Common.{IfErr, IsErrOf, refl, sym, ap, subst}
use Rattle.std.specs.Prelude.{⊤}
use Rattle.std.specs.Io.KnownBytes.{IsAtEnd}
use Rattle.relay_options.specs.declared.job.Job.{Job}
use Rattle.relay_server.specs.Jobs.{Ends, LoopEnds, JobEnds}
use Rattle.relay_script.specs.Respond.{Answering, AnswersAll, AnswersSome}
use Rattle.relay_script.specs.Script.{Stage}
use Rattle.relay_loopback.specs.Loopback.{LoopbackAnswers, unopened}
use Rattle.relay_script.specs.declared.fault.ScriptFault.{ScriptFault}
use Rattle.relay_script.specs.declared.fault.ScriptFault.TheVariants.{BadLimit, NoMemory}
use Rattle.relay_loopback.specs.declared.fault.ServeFault.{ServeFault}
use Rattle.relay_loopback.specs.declared.fault.ServeFault.TheVariants.{Ended, Listen, Lost, Store}
use Rattle.relay_loopback.specs.declared.fault.ServeFault.TheVariants.{Wait}
use Rattle.relay_loopback.specs.Faults.{IsListen}
use Rattle.relay_server.specs.declared.status.Status.{Status}
pub use Rattle.relay_script.proofs.Limits.{limits_kept}
use Rattle.relay_script.proofs.RunLemmas.{on_success, if_fault, AnswersSome-none, AnswersAll-seen}
use Rattle.relay_script.proofs.RunLemmas.{AnswersSome-seen}

-- the end of a job, for an equal job
pub JobEnds-at : (todo known : Job) (status : Status) (input left old new : Option (List ℕ))
    → todo ≡ known → JobEnds known status input left old new
    → JobEnds todo status input left old new
JobEnds-at todo known status input left old new e ends =
    subst (λ j. JobEnds j status input left old new) (sym e) ends

module _ {S : Type 0} (answers : Answering S) (from : S) (input left old new : Option (List ℕ))
  where
    -- a run that may end with `BadLimit`
    pub Ends-limited : (ended : Result (Unit {0}) ScriptFault)
        → OnOk ended (AnswersAll answers from input old new)
        → OnOk ended (IsAtEnd left)
        → IfErr ended (λ fault. fault ≢ BadLimit → AnswersSome answers fault from input old new)
        → IfErr ended (λ fault. fault ≡ BadLimit → (left ≡ input) × (new ≡ old))
        → Ends answers from ended input left old new
    Ends-limited (Ok u) all end some same = (all, end)
    Ends-limited (Err BadLimit) all end some same = same refl
    Ends-limited _ all end some same = some (λ e. cc)

    -- a run without limits
    pub Ends-free : (ended : Result (Unit {0}) ScriptFault)
        → OnOk ended (AnswersAll answers from input old new)
        → OnOk ended (IsAtEnd left)
        → IfErr ended (λ fault. AnswersSome answers fault from input old new)
        → IfErr ended (λ fault. fault ≢ BadLimit) → Ends answers from ended input left old new
    Ends-free (Ok u) all end some limits = (all, end)
    Ends-free (Err BadLimit) all end some limits = absurd (limits refl)
    Ends-free _ all end some limits = some

-- a run without limits never ends with `BadLimit`
pub no_limits : (ended : Result (Unit {0}) ScriptFault) → IfErr ended (λ fault. fault ≢ BadLimit)
    → IsErrOf ended BadLimit ↔ ⊥
no_limits (Ok u) limits = (λ bad. cc, λ none. absurd none)
no_limits (Err fault) limits =
    (λ bad. let same : fault ≡ BadLimit = cc in limits same, λ none. absurd none)

-- an unchanged reader and writer have the same remaining input and contents
pub untouched : {A B : Type 0} (ended : Result (Unit {0}) ScriptFault) (remaining : A
    → Option (List ℕ)) (contents : B → Option (List ℕ)) (input left : A) (old new : B)
    → IfErr ended (λ fault. fault ≡ BadLimit → (left ≡ input) × (new ≡ old))
    → IfErr ended (λ fault. fault ≡ BadLimit
    → (remaining left ≡ remaining input) × (contents new ≡ contents old))
untouched (Ok u) remaining contents input left old new same = tt
untouched (Err fault) remaining contents input left old new same =
    λ bad. (ap remaining (same bad).0, ap contents (same bad).1)

-- the end of a loop without a hub or sockets
pub LoopEnds-none : (fault : ServeFault) (input old : Option (List ℕ))
    → IsListen fault ⊎ (fault ≡ Ended NoMemory) ⊎ (fault ≡ Ended BadLimit)
    → LoopEnds (Err fault) input input old old
LoopEnds-none (Listen address code) input old (inl is) = (refl, refl)
LoopEnds-none Wait input old (inl is) = absurd is
LoopEnds-none Store input old (inl is) = absurd is
LoopEnds-none Lost input old (inl is) = absurd is
LoopEnds-none (Ended fault) input old (inl is) = absurd is
LoopEnds-none fault input old (inr (inl e)) =
    subst (λ f. LoopEnds (Err f) input input old old) (sym e)
    (AnswersSome-none LoopbackAnswers unopened input old)
LoopEnds-none fault input old (inr (inr e)) =
    subst (λ f. LoopEnds (Err f) input input old old) (sym e) (refl, refl)

-- a run of the loop is a run of a script whose events have any of the outcomes that sockets can
-- give
pub loop_ran : {S : Type 0} (answers : Answering S) (see : S
    → Stage ⊤) (from : S) (input left old new : Option (List ℕ))
    (ended : Result (Unit {0}) ScriptFault) → see from ≡ unopened
    → ((old new : S) (number : ℕ) (line answer : List ℕ) → answers old number line new answer
    → LoopbackAnswers (see old) number line (see new) answer)
    → OnOk ended (AnswersAll answers from input old new) → OnOk ended (IsAtEnd left)
    → IfErr ended (λ fault. AnswersSome answers fault from input old new)
    → IfErr ended (λ fault. fault ≢ BadLimit)
    → Ends LoopbackAnswers unopened ended input left old new
loop_ran answers see from input left old new ended begun same all end some limits =
    subst (λ s. Ends LoopbackAnswers s ended input left old new) begun
    (Ends-free LoopbackAnswers (see from) input left old new ended
    (on_success ended (AnswersAll-seen answers LoopbackAnswers see same from input old new) all)
    end
    (if_fault ended (λ fault.
    AnswersSome-seen answers LoopbackAnswers see same fault from input old new) some)
    limits)

-- a run does not end for a fault that it never has
pub never_ends : {B F : Type 0} (ended : Result B F) (late : F)
    → IfErr ended (λ fault. fault ≢ late) → ended ≡ Err late → ⊥
never_ends (Ok x) late other e = absurd (cc e)
never_ends (Err fault) late other e = let same : fault ≡ late = cc in other same

-- nor does a job with sockets, by such a run
pub ended_apart : (fault : ScriptFault) → fault ≢ BadLimit → Ended fault ≢ Ended BadLimit
ended_apart fault other e = let same : fault ≡ BadLimit = cc in other same

-- The ends of the program's jobs, and their statuses.
use Rattle.std.specs.Prelude.{◌≡◌, ◌≤◌, ◌↔◌, ℕ, ◌⊎◌, ⊤, List, [], Option, Some, None, Result, Ok}
use Rattle.std.specs.Prelude.{Err, IsErrOf, string_bytes}
use Rattle.std.specs.Io.KnownBytes.{IsAtEnd, Appends, Keeps}
use Rattle.std.specs.declared.io.ErrorKind.{ErrorKind}
use Rattle.std.specs.declared.io.ErrorKind.TheVariants as kind
use Rattle.relay_hub.specs.Queries.{BadLimits}
use Rattle.relay_options.specs.declared.job.Job.{Job}
use Rattle.relay_options.specs.declared.job.Job.TheVariants as job
use Rattle.relay_options.specs.declared.job.Stop.{Stop}
use Rattle.relay_options.specs.declared.job.Stop.TheVariants as stop
use Rattle.relay_options.specs.declared.settings.Settings.{Settings}
use Rattle.relay_options.specs.CommandLine.{AskFor, StopsAt, faults_of}
use Rattle.relay_options.specs.Ranges.{IsPossible}
use Rattle.relay_script.specs.Follow as follow
use Rattle.relay_script.specs.Lines.{AppendsPart}
use Rattle.relay_script.specs.Respond.{Answering, AnswersAll, AnswersSome}
use Rattle.relay_script.specs.Script.{HubAnswers, new_stage}
use Rattle.relay_server.specs.Config.{config_of}
use Rattle.relay_loopback.specs.Loopback.{LoopbackAnswers, unopened}
use Rattle.relay_server.specs.Printed.{listening_text, served_text}
use Rattle.relay_server.specs.StoreTools.{ToolEndsAs}
use Rattle.relay_script.specs.declared.fault.ScriptFault.{ScriptFault}
use Rattle.relay_script.specs.declared.fault.ScriptFault.TheVariants.{BadLimit, NoMemory}
use Rattle.relay_loopback.specs.declared.fault.ServeFault.{ServeFault}
use Rattle.relay_loopback.specs.declared.fault.ServeFault.TheVariants as serve
use Rattle.relay_server.specs.declared.status.Status.{Status}
use Rattle.relay_server.specs.declared.status.Status.TheVariants as is

abbrev pub code_of : Status → ℕ
code_of is.Done = 0
code_of is.Failed = 1
code_of is.Misused = 2
code_of is.NoMemory = 3
code_of is.NoRoom = 4

abbrev pub status_of : Result (Unit {0}) ScriptFault → Status
status_of (Ok u) = is.Done
status_of (Err BadLimit) = is.Misused
status_of (Err NoMemory) = is.NoMemory
status_of (Err _) = is.Failed

-- The end of a run, by the input before it, what is left of the input, and what was written before
-- and after. On success every line was answered and none is left. At `BadLimit` nothing was read or
-- written. At another fault the first lines were answered.
abbrev pub Ends : {S : Type 0} → Answering S → S → Result (Unit {0}) ScriptFault → Option (List ℕ)
    → Option (List ℕ) → Option (List ℕ) → Option (List ℕ) → Type 0
Ends answers from (Ok u) input left old new = AnswersAll answers from input old new × IsAtEnd left
Ends answers from (Err BadLimit) input left old new = (left ≡ input) × (new ≡ old)
Ends answers from (Err fault) input left old new = AnswersSome answers fault from input old new

-- the same for a job that ends with this status, and at `BadLimit` exactly if a limit is out of
-- range
abbrev pub EndsAs : {S : Type 0} → Answering S → S → Type 0 → Status → Option (List ℕ)
    → Option (List ℕ) → Option (List ℕ) → Option (List ℕ) → Type 0
EndsAs answers from is_bad status input left old new =
    (ended : Result (Unit {0}) ScriptFault) × (status ≡ status_of ended)
    × (IsErrOf ended BadLimit ↔ is_bad) × Ends answers from ended input left old new

-- The jobs with sockets.

abbrev pub sockets_status : Result (Unit {0}) ServeFault → Status
sockets_status (Ok u) = is.Done
sockets_status (Err (serve.Ended fault)) = status_of (Err fault)
sockets_status (Err _) = is.Failed

-- the run ends as a script does; or it had no sockets, and nothing was read or written
abbrev pub LoopEnds : Result (Unit {0}) ServeFault → Option (List ℕ) → Option (List ℕ)
    → Option (List ℕ) → Option (List ℕ) → Type 0
LoopEnds (Ok u) input left old new = Ends LoopbackAnswers unopened (Ok u) input left old new
LoopEnds (Err (serve.Ended fault)) input left old new =
    Ends LoopbackAnswers unopened (Err fault) input left old new
LoopEnds (Err _) input left old new = (left ≡ input) × (new ≡ old)

-- there were no sockets, no poll of them, or no store
abbrev pub HasNoSockets : ServeFault → Type 0
HasNoSockets (serve.Ended fault) = ⊥
HasNoSockets serve.Lost = ⊥
HasNoSockets _ = ⊤

-- there was no store, or no memory for what it keeps
abbrev pub IsUnopened : ServeFault → Type 0
IsUnopened serve.Store = ⊤
IsUnopened (serve.Ended NoMemory) = ⊤
IsUnopened _ = ⊥

-- no line was cut: either nothing was written, or the first line
abbrev pub Listens : ℕ → Option (List ℕ) → Option (List ℕ) → Type 0
Listens port old new = Keeps old new ⊎ Appends old new (listening_text port)

-- The end of a server that made `rounds` rounds, by what was written before and after. On success
-- it wrote both of its lines, for some port. At `BadLimit`, or without sockets or a store, it wrote
-- nothing; at `NoMemory`, nothing or the first line; at another fault, a prefix of both lines.
abbrev pub ServeEnds : ℕ → Result (Unit {0}) ServeFault → Option (List ℕ) → Option (List ℕ) → Type 0
ServeEnds rounds (Ok u) old new = (port : ℕ) × Appends old new (served_text port rounds)
ServeEnds rounds (Err (serve.Ended BadLimit)) old new = new ≡ old
ServeEnds rounds (Err (serve.Ended NoMemory)) old new = (port : ℕ) × Listens port old new
ServeEnds rounds (Err (serve.Ended fault)) old new =
    (port : ℕ) × AppendsPart old new (served_text port rounds)
ServeEnds rounds (Err serve.Lost) old new =
    (port : ℕ) × AppendsPart old new (served_text port rounds)
ServeEnds rounds (Err _) old new = new ≡ old

-- A server that should make `rounds` rounds made so many: all of them, or, if it has an operator's
-- port, no more.
abbrev pub HasMade : Option ℕ → ℕ → ℕ → Type 0
HasMade None rounds made = made ≡ rounds
HasMade (Some admin) rounds made = made ≤ rounds

-- how a server ends that should make `rounds` rounds, and may have an operator's port
abbrev pub ServesUpTo : Option ℕ → ℕ → Result (Unit {0}) ServeFault → Option (List ℕ)
    → Option (List ℕ) → Type 0
ServesUpTo admin rounds ended old new =
    (made : ℕ) × HasMade admin rounds made × ServeEnds made ended old new

-- the same for a job that ends with this status, and at `BadLimit` exactly if a limit is out of
-- range
abbrev pub EndsBy : (Result (Unit {0}) ServeFault → Type 0) → Settings → Status → Type 0
EndsBy ends settings status =
    (ended : Result (Unit {0}) ServeFault) × (status ≡ sockets_status ended)
    × (IsErrOf ended (serve.Ended BadLimit) ↔ BadLimits (config_of settings)) × ends ended

-- The end of a job. A server reads nothing.
abbrev pub JobEnds : Job → Status → Option (List ℕ) → Option (List ℕ) → Option (List ℕ)
    → Option (List ℕ) → Type 0
JobEnds (job.Script settings) status input left old new =
    EndsAs HubAnswers (new_stage (config_of settings)) (BadLimits (config_of settings)) status
    input left old new
JobEnds job.Follow status input left old new =
    EndsAs follow.Answers None ⊥ status input left old new
JobEnds (job.Loop settings) status input left old new =
    EndsBy (λ ended. LoopEnds ended input left old new) settings status
JobEnds (job.Serve listen port admin rounds log forget_rooms closed output_mib origins per_peer
    store settings) status input left old new =
    (left ≡ input) × EndsBy (λ ended. ServesUpTo admin rounds ended old new) settings status
JobEnds (job.Store asked) status input left old new =
    ToolEndsAs asked.tool status input left old new

-- the text was written, or a prefix of it if the writer failed
abbrev pub Shows : List ℕ → Status → Option (List ℕ) → Option (List ℕ) → Type 0
Shows text is.Done old new = Appends old new text
Shows text is.Failed old new = AppendsPart old new text
Shows text _ old new = ⊥

-- how the program ends without a job
abbrev pub StopEnds : Stop → Status → Option (List ℕ) → Option (List ℕ) → Type 0
StopEnds (stop.Help text) status old new = Shows (string_bytes text) status old new
StopEnds (stop.Misuse text) status old new = (status ≡ is.Misused) × (new ≡ old)
StopEnds stop.NoMemory status old new = (status ≡ is.NoMemory) × (new ≡ old)

-- The end of the program: with the job that the words ask for, at some time, whose numbers are all
-- in range, if nothing is wrong with the words; or without a job, for a reason that they give, and
-- nothing was read.
abbrev pub WordsEnd : List (List ℕ) → Status → Option (List ℕ) → Option (List ℕ) → Option (List ℕ)
    → Option (List ℕ) → Type 0
WordsEnd words status input left old new = ((now : Option ℕ) × (job : Job) × IsPossible job
    × (faults_of words ≡ []) × AskFor words now job × JobEnds job status input left old new)
    ⊎ ((why : Stop) × StopsAt (faults_of words) why × (left ≡ input)
    × StopEnds why status old new)

-- The status if the arguments could not be read: one of them is not UTF-8, which is a fault of the
-- arguments; out of memory; or the system failed.
abbrev pub unread_status : ErrorKind → Status
unread_status kind.InvalidData = is.Misused
unread_status kind.OutOfMemory = is.NoMemory
unread_status _ = is.Failed

-- the process ends with the exit code of such a status
abbrev pub Starts : List (List ℕ) → ℕ → Option (List ℕ) → Option (List ℕ) → Option (List ℕ)
    → Option (List ℕ) → Type 0
Starts words code input left old new = (status : Status) × (code ≡ code_of status)
    × WordsEnd words status input left old new

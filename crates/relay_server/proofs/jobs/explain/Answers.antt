-- The end of the program without a job.
use Rattle.std.proofs.Common.{◌≡◌, ℕ, refl, sym, subst, List, Option, Result, Ok, Err, OnOk, OnErr}
use Rattle.std.proofs.Common.{IfErr}
use Rattle.std.specs.Io.KnownBytes.{Appends}
use Rattle.relay_options.specs.declared.job.Stop.{Stop}
use Rattle.relay_server.specs.Jobs.{StopEnds, Shows, status_of}
use Rattle.relay_script.specs.Lines.{AppendsPart}
use Rattle.relay_script.specs.declared.fault.ScriptFault.{ScriptFault}
use Rattle.relay_script.specs.declared.fault.ScriptFault.TheVariants.{Output}
use Rattle.relay_server.specs.declared.status.Status.{Status}
use Rattle.relay_server.proofs.jobs.explain.Goals as goal

at_stop : (why known : Stop) (status : Status) (old new : Option (List ℕ)) → why ≡ known
    → StopEnds known status old new → StopEnds why status old new
at_stop why known status old new e ends = subst (λ s. StopEnds s status old new) (sym e) ends

-- a text that was written completely, or in part
shown : (text : List ℕ) (written : Result (Unit {0}) ScriptFault) (old new : Option (List ℕ))
    → OnOk written (Appends old new text)
    → OnErr written (AppendsPart old new text) → IfErr written (λ fault. fault ≡ Output)
    → Shows text (status_of written) old new
shown text (Ok u) old new all part which = all
shown text (Err fault) old new all part which =
    subst (λ f. Shows text (status_of (Err f)) old new) (sym which) part

shows : (text bytes : List ℕ) (status : Status) (written : Result (Unit {0}) ScriptFault)
    (old new : Option (List ℕ)) → bytes ≡ text → status ≡ status_of written
    → OnOk written (Appends old new bytes) → OnErr written (AppendsPart old new bytes)
    → IfErr written (λ fault. fault ≡ Output) → Shows text status old new
shows text bytes status written old new same is all part which =
    subst (λ s. Shows text s old new) (sym is) (subst (λ t.
    Shows t (status_of written) old new) same (shown bytes written old new all part which))

pub returns-in-Help : goal.returns-in-Help
returns-in-Help g c =
    let old = g.W.Write.contents c.args.writer.now in
    let wrote = c.write_whole.ensures in
    at_stop _ _ _ _ _ c.in-Help.is
    (shows _ _ _ c.write_whole.result old _ c.as_bytes.ensures.value c.report.ensures.status
    wrote.ok wrote.err wrote.fault)

pub returns-in-Misuse : goal.returns-in-Misuse
returns-in-Misuse g c = at_stop _ _ _ _ _ c.in-Misuse.is (refl, refl)

pub returns-in-NoMemory : goal.returns-in-NoMemory
returns-in-NoMemory g c =
    at_stop _ _ _ _ _ c.in-NoMemory.is (c.report-in-NoMemory.ensures.status, refl)

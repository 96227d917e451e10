-- The results of the checks, and the answers, related to verdicts.
use Rattle.std.specs.Prelude.{◌≡◌, Result, Ok, Err, string_bytes}
use Rattle.relay_http_head.specs.declared.checks.Fault.{Fault}
use Rattle.relay_http_head.specs.declared.checks.Fault.TheVariants.{Refused, NoMemory}
use Rattle.relay_admin.specs.Route.{Place, at_path, at_room, at_door, Asked, request, forget, part}
use Rattle.relay_admin.specs.Route.{edit, admit, exclude}
use Rattle.relay_admin.specs.Verdict.{Verdict, more, accept, refuse}
use Rattle.relay_admin.specs.declared.answer.Ask.{Ask}
use Rattle.relay_admin.specs.declared.answer.Ask.TheVariants as ask
use Rattle.relay_admin.specs.declared.admin_fault.AdminFault.{AdminFault}
use Rattle.relay_admin.specs.declared.room.edit.EditRequest.{EditRequest}
use Rattle.relay_admin.specs.declared.room.part.PartRequest.{PartRequest}
use Rattle.relay_admin.specs.declared.target.Target.{Target}
use Rattle.relay_admin.specs.declared.target.Target.TheVariants as target

-- the result, as it is seen, is the one that is wanted, unless memory ran out
abbrev pub Judges : {A B : Type 0} → (A → B) → Result A (Fault AdminFault) → Result B AdminFault
    → Type 0
Judges seen (Ok found) wanted = wanted ≡ Ok (seen found)
Judges seen (Err (Refused refusal)) wanted = wanted ≡ Err refusal
Judges seen (Err NoMemory) wanted = Unit {0}

-- where a target leads
abbrev pub place_of : Target → Place
place_of (target.Request r) = at_path r
place_of (target.Room name) = at_room name.now
place_of (target.Door name) = at_door name.now

abbrev pub part_of : PartRequest → Asked
part_of p = part (string_bytes p.room) (string_bytes p.at) p.if_none_match

abbrev pub edit_of : EditRequest → Asked
edit_of e = edit (string_bytes e.room) e.if_match e.length

-- the verdict that an answer tells
abbrev pub verdict_told : Ask → Verdict
verdict_told ask.More = more
verdict_told (ask.Request r) = accept (request r)
verdict_told (ask.Forget room) = accept (forget (string_bytes room))
verdict_told (ask.Read p) = accept (part_of p)
verdict_told (ask.Edit e) = accept (edit_of e)
verdict_told (ask.Admit room) = accept (admit (string_bytes room))
verdict_told (ask.Exclude room) = accept (exclude (string_bytes room))
verdict_told (ask.Refused refusal) = refuse refusal

-- the same of a result: a refusal is an answer too
abbrev pub JudgesAsk : Result Ask (Fault AdminFault) → Verdict → Type 0
JudgesAsk (Ok answer) verdict = verdict_told answer ≡ verdict
JudgesAsk (Err (Refused refusal)) verdict = verdict ≡ refuse refusal
JudgesAsk (Err NoMemory) verdict = Unit {0}

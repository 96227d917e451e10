-- The texts of answers: `NAME` and the result of its line.
use Rattle.std.specs.Prelude.{[], ℕ, zero, suc, List, ◌++◌, codes, decimal, Option, Some, None}
use Rattle.std.specs.Prelude.{Result, Ok, Err}
use Rattle.relay_follow.specs.declared.fault.HearFault.{HearFault}
use Rattle.relay_follow.specs.declared.fault.HearFault.TheVariants as hear
use Rattle.relay_hub.specs.declared.event.Answer.{Answer}
use Rattle.relay_hub.specs.declared.event.Answer.TheVariants.{Opened, NotOpened, Heard, Drawn}
use Rattle.relay_hub.specs.declared.event.Answer.TheVariants.{Closed, WillDone, NoWill, Forgotten}
use Rattle.relay_hub.specs.declared.event.Answer.TheVariants.{NotForgotten, Adopted}
use Rattle.relay_hub.specs.declared.event.Answer.TheVariants.{NotAdopted, FloorRaised, NoSession}
use Rattle.relay_hub.specs.declared.event.Heard.TheVariants.{Answered, Busy}
use Rattle.relay_hub.specs.declared.fault.HubFault.{HubFault}
use Rattle.relay_hub.specs.declared.fault.HubFault.TheVariants as hub
use Rattle.relay_hub.specs.declared.fault.OpenFault.{OpenFault}
use Rattle.relay_hub.specs.declared.fault.OpenFault.TheVariants as open_fault
use Rattle.relay_script.specs.declared.outcome.Outcome.{Outcome}
use Rattle.relay_script.specs.declared.outcome.Outcome.TheVariants as outcome
use Rattle.relay_tree.specs.Document.{Document}
use Rattle.relay_tree.specs.Text.{text_of}

abbrev pub unknown_text : List ℕ → List ℕ
unknown_text name = name ++ codes " unknown\n"

abbrev pub no_memory_text : List ℕ → List ℕ
no_memory_text name = name ++ codes " no-memory\n"

-- the answer to a line of no known form, by its number
abbrev pub form_text : ℕ → List ℕ
form_text number = codes "? " ++ (decimal number ++ codes "\n")

-- refused openings

abbrev pub open_word : OpenFault → List ℕ
open_word open_fault.RoomName = codes "room-name"
open_word open_fault.RoomsFull = codes "rooms-full"
open_word open_fault.SessionsFull = codes "sessions-full"
open_word open_fault.Exhausted = codes "exhausted"
open_word open_fault.NoMemory = codes "no-memory"

abbrev pub taken_text : List ℕ → List ℕ
taken_text name = name ++ codes " refused name-taken\n"

-- answers of the hub

abbrev pub answer_text : List ℕ → Answer → List ℕ
answer_text name (Opened o) = name ++ (codes " opened " ++ (decimal o.session ++ codes "\n"))
answer_text name (NotOpened fault) = name ++ (codes " refused " ++ (open_word fault ++ codes "\n"))
answer_text name (Heard (Answered zero)) = name ++ codes " answered\n"
answer_text name (Heard (Answered (suc n))) =
    name ++ (codes " answered short " ++ (decimal (suc n) ++ codes "\n"))
answer_text name (Heard Busy) = name ++ codes " busy\n"
answer_text name (Drawn (Some text)) = name ++ (codes " " ++ (text ++ codes "\n"))
answer_text name (Drawn None) = name ++ codes " nothing\n"
answer_text name Closed = name ++ codes " closed\n"
answer_text name (WillDone short) = []
answer_text name NoWill = []
answer_text name (Forgotten rev) = []
answer_text name (NotForgotten fault) = []
answer_text name Adopted = []
answer_text name (NotAdopted fault) = []
answer_text name FloorRaised = []
answer_text name NoSession = unknown_text name

-- outcomes of an event

abbrev pub outcome_text : List ℕ → Outcome → List ℕ
outcome_text name (outcome.Answered answer) = answer_text name answer
outcome_text name outcome.NoMemory = no_memory_text name
outcome_text name (outcome.Rejected status) =
    name ++ (codes " refused " ++ (decimal status ++ codes "\n"))
outcome_text name outcome.Stuck = name ++ codes " stuck\n"

-- a will has no line, unless memory ran out for it
abbrev pub after_will : List ℕ → Outcome → List ℕ
after_will name outcome.NoMemory = no_memory_text name
after_will name outcome = []

-- faults of a follower

abbrev pub hear_word : HearFault → List ℕ
hear_word hear.NotMessage = codes "not-message"
hear_word hear.NoView = codes "no-view"
hear_word hear.Order = codes "order"
hear_word hear.Apply = codes "apply"
hear_word hear.NoMemory = codes "no-memory"

abbrev pub off_text : List ℕ → HearFault → List ℕ
off_text name fault = name ++ (codes " off " ++ (hear_word fault ++ codes "\n"))

-- what a follower holds, and what it should hold

abbrev pub view_text : List ℕ → Option (ℕ × Document) → List ℕ
view_text word (Some held) =
    word ++ (codes " " ++ (decimal held.0 ++ (codes " " ++ (text_of held.1 ++ codes "\n"))))
view_text word None = word ++ codes " nothing\n"

abbrev pub held_text : List ℕ → Option (ℕ × Document) → List ℕ
held_text name held = name ++ (codes " " ++ view_text (codes "held") held)

abbrev pub truth_text : List ℕ → Option (ℕ × Document) → List ℕ
truth_text name shown = name ++ (codes " " ++ view_text (codes "truth") shown)

-- results of `truth_of`

abbrev pub shown_text : List ℕ → Result (Option (ℕ × Document)) HubFault → List ℕ
shown_text name (Ok shown) = truth_text name shown
shown_text name (Err hub.NoSession) = unknown_text name
shown_text name (Err hub.NoMemory) = no_memory_text name

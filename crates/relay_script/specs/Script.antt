-- The answers to the lines of a script, by the outcomes of its events at a transport.
use Rattle.std.specs.Prelude.{◌≡◌, ℕ, List, [], ◌++◌, Option, Some, None, Result, bytes_eq}
use Rattle.std.specs.Prelude.{if◌then◌else◌}
use Rattle.std.specs.Map.{lookup}
use Rattle.relay_follow.specs.Hearing.{as_client, told, hear_fault}
use Rattle.relay_follow.specs.declared.fault.HearFault.{HearFault}
use Rattle.relay_follow.specs.declared.fault.HearFault.TheVariants.{NoMemory}
use Rattle.relay_hub.specs.State.{State as Hub, made_with}
use Rattle.relay_hub.specs.declared.config.HubConfig.{HubConfig}
use Rattle.relay_hub.specs.declared.event.Answer.TheVariants.{Drawn, Closed}
use Rattle.relay_hub.specs.declared.event.Event.TheVariants.{Open, Receive, Draw, Close, DoWill}
use Rattle.relay_hub.specs.declared.fault.HubFault.{HubFault}
use Rattle.relay_access.specs.declared.access.Access.{Access}
use Rattle.relay_tree.specs.Document.{Document}
use Rattle.relay_script.specs.Line.{Act, opens, says, draws, closes, shows, tells, Form, blank}
use Rattle.relay_script.specs.Line.{unknown, named, LineIs}
use Rattle.relay_script.specs.Transport.{Transporting, Telling, session_after, HubComes, HubTells}
use Rattle.relay_script.specs.Words.{unknown_text, form_text, taken_text, outcome_text, after_will}
use Rattle.relay_script.specs.Words.{off_text, held_text, shown_text}
use Rattle.relay_script.specs.declared.outcome.Outcome.{Outcome}
use Rattle.relay_script.specs.declared.outcome.Outcome.TheVariants.{Answered}
use Rattle.relay_script.specs.declared.retrying_follower.RetryingFollower.{RetryingFollower}
use Rattle.relay_script.specs.declared.script_client.ScriptClient.{ScriptClient}

-- the state of a script: its transport, and the client of each of its names
pub record Stage (T : Type 0) : Type 0 where
  pub transport : T
  pub clients : List (List ℕ × ScriptClient)

abbrev pub stage : {T : Type 0} → T → List (List ℕ × ScriptClient) → Stage T
stage transport clients = record { transport = transport; clients = clients }

-- a new script over a new hub
abbrev pub new_stage : HubConfig → Stage Hub
new_stage config = stage (made_with config) []

abbrev pub client_of : List (List ℕ × ScriptClient) → List ℕ → Option ScriptClient
client_of clients name = lookup (bytes_eq name) clients

-- a follower: what it holds, and the text that it has to apply again, if it was out of memory
abbrev pub follower : Option (ℕ × Document) → Option (List ℕ) → RetryingFollower
follower held unheard = record { follower = held; unheard = unheard }

abbrev pub new_follower : RetryingFollower
new_follower = follower None None

-- the client of a name: its session, if one is open, and the follower of the texts that it draws
abbrev pub client : Option ℕ → RetryingFollower → ScriptClient
client session follower = record { session = session; follower = follower }

-- A follower receives a text. It is applied as a client applies it; or it is out of memory, and is
-- kept; or it is refused with its first fault, and what is held stays.
abbrev pub Hears : Option (ℕ × Document) → List ℕ → Option HearFault → RetryingFollower → Type 0
Hears held text None next =
    (hear_fault held text ≡ None) × (told (as_client held) text ≡ Some (as_client next.follower))
    × (next.unheard ≡ None)
Hears held text (Some NoMemory) next = next ≡ follower held (Some text)
Hears held text (Some fault) next =
    (hear_fault held text ≡ Some fault) × (next ≡ follower held None)

-- the follower receives the kept text, if there is one
abbrev pub HearsKept : Option (List ℕ) → RetryingFollower → Option HearFault → RetryingFollower
    → Type 0
HearsKept None old fault next = (fault ≡ None) × (next ≡ old)
HearsKept (Some text) old fault next = Hears old.follower text fault next

abbrev pub HearsAgain : RetryingFollower → Option HearFault → RetryingFollower → Type 0
HearsAgain old fault next = HearsKept old.unheard old fault next

abbrev pub after_hearing : List ℕ → Option HearFault → List ℕ
after_hearing name None = []
after_hearing name (Some fault) = off_text name fault

-- The outcome of a draw, and the text that the follower then receives, if one was drawn.
abbrev pub DrawsAs : List ℕ → Outcome → ScriptClient → ScriptClient → List ℕ → Type 0
DrawsAs name (Answered (Drawn (Some text))) p q answer =
    (fault : Option HearFault) × Hears p.follower.follower text fault q.follower
    × (q.session ≡ p.session)
    × (answer ≡ outcome_text name (Answered (Drawn (Some text))) ++ after_hearing name fault)
DrawsAs name outcome p q answer = (q ≡ p) × (answer ≡ outcome_text name outcome)

-- all names but `name` are unchanged, and `name` has the client `q`
abbrev pub OnlyName : List ℕ → ScriptClient → List (List ℕ × ScriptClient)
    → List (List ℕ × ScriptClient) → Type 0
OnlyName name q old new =
    (other : List ℕ) → client_of new other
    ≡ (if bytes_eq name other then Some q else client_of old other)

-- a name that gets its first session begins with a new follower
abbrev pub Enters : List ℕ → Option ℕ → List (List ℕ × ScriptClient) → List (List ℕ × ScriptClient)
    → Type 0
Enters name (Some s) old new = OnlyName name (client (Some s) new_follower) old new
Enters name None old new = new ≡ old

module _ {T : Type 0} (comes : Transporting T) where
  -- Commands for a name that was opened before.

  -- an opening: refused if the name has an open session
  abbrev pub Opens : List ℕ → List ℕ → Access → Option ℕ → ScriptClient → T → ScriptClient → T
      → List ℕ → Type 0
  Opens name room access (Some s) p old q new answer =
      (q ≡ p) × (new ≡ old) × (answer ≡ taken_text name)
  Opens name room access None p old q new answer =
      (outcome : Outcome) × comes old (Open room access) outcome new
      × (q ≡ client (session_after outcome None) p.follower) × (answer ≡ outcome_text name outcome)

  -- the will of a session that was closed is done: the oldest that is left. It has a line of its
  -- own only if memory ran out, and then it is left
  abbrev pub DoesWill : List ℕ → Outcome → T → T → List ℕ → Type 0
  DoesWill name (Answered Closed) old new rest =
      (will : Outcome) × comes old DoWill will new × (rest ≡ after_will name will)
  DoesWill name outcome old new rest = (new ≡ old) × (rest ≡ [])

  -- the closing of session s, and then its will
  abbrev pub Closes : List ℕ → ℕ → ScriptClient → T → ScriptClient → T → List ℕ → Type 0
  Closes name s p old q new answer = (outcome : Outcome) × (mid : T) × (rest : List ℕ)
      × comes old (Close s) outcome mid × DoesWill name outcome mid new rest
      × (q ≡ client (session_after outcome (Some s)) p.follower)
      × (answer ≡ outcome_text name outcome ++ rest)

  -- for a name that was never opened: any command but an opening is unknown
  abbrev pub ActsNew : List ℕ → Act → Stage T → Stage T → List ℕ → Type 0
  ActsNew name (opens room access) old new answer =
      (outcome : Outcome) × comes old.transport (Open room access) outcome new.transport
      × Enters name (session_after outcome None) old.clients new.clients
      × (answer ≡ outcome_text name outcome)
  ActsNew name _ old new answer =
      (new.transport ≡ old.transport) × (new.clients ≡ old.clients) × (answer ≡ unknown_text name)

module _ {T : Type 0} (comes : Transporting T) (telling : Telling T) where
  -- a command for a name that was opened before, whose session is open or closed
  abbrev pub ActsOpen : List ℕ → Act → Option ℕ → ScriptClient → T → ScriptClient → T → List ℕ
      → Type 0
  ActsOpen name (opens room access) session p old q new answer =
      Opens comes name room access session p old q new answer
  ActsOpen name (says text) (Some s) p old q new answer =
      (outcome : Outcome) × comes old (Receive s text) outcome new
      × (q ≡ p) × (answer ≡ outcome_text name outcome)
  ActsOpen name draws (Some s) p old q new answer =
      (outcome : Outcome) × comes old (Draw s) outcome new × DrawsAs name outcome p q answer
  ActsOpen name closes (Some s) p old q new answer = Closes comes name s p old q new answer
  ActsOpen name shows session p old q new answer =
      (q ≡ p) × (new ≡ old) × (answer ≡ held_text name p.follower.follower)
  ActsOpen name tells (Some s) p old q new answer =
      (shown : Result (Option (ℕ × Document)) HubFault) × telling old s shown
      × (q ≡ p) × (new ≡ old) × (answer ≡ shown_text name shown)
  ActsOpen name _ None p old q new answer = (q ≡ p) × (new ≡ old) × (answer ≡ unknown_text name)

  abbrev pub Acts : List ℕ → Act → ScriptClient → T → ScriptClient → T → List ℕ → Type 0
  Acts name act p old q new answer = ActsOpen name act p.session p old q new answer

  -- a command after the line of the follower's fault, if there is one; it is skipped if the kept
  -- text is out of memory again
  abbrev pub Goes : List ℕ → Act → Option HearFault → ScriptClient → T → ScriptClient → T → List ℕ
      → Type 0
  Goes name act (Some NoMemory) p old q new answer =
      (q ≡ p) × (new ≡ old) × (answer ≡ off_text name NoMemory)
  Goes name act fault p old q new answer =
      (rest : List ℕ) × Acts name act p old q new rest × (answer ≡ after_hearing name fault ++ rest)

  -- a command for a name that was opened before: the follower first receives the kept text again
  abbrev pub Attends : List ℕ → Act → ScriptClient → T → ScriptClient → T → List ℕ → Type 0
  Attends name act p old q new answer =
      (mid : RetryingFollower) × (fault : Option HearFault) × HearsAgain p.follower fault mid
      × Goes name act fault (client p.session mid) old q new answer

  -- The lines.

  abbrev pub ActsNamed : List ℕ → Act → Option ScriptClient → Stage T → Stage T → List ℕ → Type 0
  ActsNamed name act None old new answer = ActsNew comes name act old new answer
  ActsNamed name act (Some p) old new answer =
      (q : ScriptClient) × Attends name act p old.transport q new.transport answer
      × OnlyName name q old.clients new.clients

  -- what a line does, by its number and its form
  abbrev pub Does : ℕ → Form → Stage T → Stage T → List ℕ → Type 0
  Does number blank old new answer =
      (new.transport ≡ old.transport) × (new.clients ≡ old.clients) × (answer ≡ [])
  Does number unknown old new answer =
      (new.transport ≡ old.transport) × (new.clients ≡ old.clients) × (answer ≡ form_text number)
  Does number (named name act) old new answer =
      ActsNamed name act (client_of old.clients name) old new answer

  -- the script before a line, the line's number, the line, the script after it, and the answer
  abbrev pub Answers : Stage T → ℕ → List ℕ → Stage T → List ℕ → Type 0
  Answers old number line new answer =
      (form : Form) × LineIs line form × Does number form old new answer

-- the answers of a script whose transport is the hub itself
abbrev pub HubAnswers : Stage Hub → ℕ → List ℕ → Stage Hub → List ℕ → Type 0
HubAnswers old number line new answer = Answers HubComes HubTells old number line new answer

-- The outcomes that loopback sockets can give for an event of a script, and what the hub behind
-- them tells.
use Rattle.std.specs.Prelude.{◌≡◌, ⊤, ℕ, List, []}
use Rattle.relay_hub.specs.declared.event.Answer.TheVariants as answer
use Rattle.relay_hub.specs.declared.event.Event.{Event}
use Rattle.relay_hub.specs.declared.event.Event.TheVariants.{Open, Receive, Draw, Close, DoWill}
use Rattle.relay_hub.specs.declared.event.Heard.TheVariants.{Answered, Busy}
use Rattle.relay_hub.specs.State.{State}
use Rattle.relay_loopback.specs.declared.loopback.Loopback.{Loopback}
use Rattle.relay_script.specs.Script as script
use Rattle.relay_script.specs.Script.{Stage, stage}
use Rattle.relay_script.specs.Transport.{Transporting, Telling, HubComes, HubTells}
use Rattle.relay_script.specs.declared.outcome.Outcome.{Outcome}
use Rattle.relay_script.specs.declared.outcome.Outcome.TheVariants as outcome

-- the hub behind the sockets
abbrev pub hub_of : {N L S : Type 0} → Loopback N L S → State
hub_of loopback = loopback.hub

-- The outcomes of an event that a client can see: the hub's answer, without the number of outboxes
-- that folded; the status of a refused handshake; or nothing within the limit of turns. A will is
-- done by the hub itself.
abbrev pub CanCome : Event → Outcome → Type 0
CanCome (Open room access) (outcome.Answered (answer.Opened o)) = ⊤
CanCome (Open room access) (outcome.Rejected status) = ⊤
CanCome (Receive s text) (outcome.Answered (answer.Heard (Answered short))) = short ≡ 0
CanCome (Receive s text) (outcome.Answered (answer.Heard Busy)) = ⊤
CanCome (Draw s) (outcome.Answered (answer.Drawn text)) = ⊤
CanCome (Close s) (outcome.Answered answer.Closed) = ⊤
CanCome DoWill (outcome.Answered (answer.WillDone short)) = ⊤
CanCome DoWill (outcome.Answered answer.NoWill) = ⊤
CanCome DoWill outcome.NoMemory = ⊤
CanCome event (outcome.Answered answer.NoSession) = ⊤
CanCome event outcome.Stuck = ⊤
CanCome event came = ⊥

-- The outcome of an event, from the sockets and the hub before it to those after it. A will is a
-- step of the hub itself.
abbrev pub Comes : {N L S : Type 0} → Transporting (Loopback N L S)
Comes old DoWill came new = HubComes (hub_of old) DoWill came (hub_of new)
Comes old event came new = CanCome event came

-- what a session should hold, by the hub
abbrev pub Tells : {N L S : Type 0} → Telling (Loopback N L S)
Tells loopback s shown = HubTells (hub_of loopback) s shown

-- the answers to a script whose events have any of the outcomes that sockets can give
abbrev pub LoopbackAnswers : Stage ⊤ → ℕ → List ℕ → Stage ⊤ → List ℕ → Type 0
LoopbackAnswers old number line new written =
    script.Answers (λ before event came after. CanCome event came) (λ before session shown.
    ⊤) old number line new written

-- a script before its first line
abbrev pub unopened : Stage ⊤
unopened = stage tt []

-- Lemmas about the lines of a script's names.
use Rattle.std.proofs.Common.{◌≡◌, ℕ, List, Option, Some, None, Result, sym, ap, subst}
use Rattle.relay_follow.specs.declared.fault.HearFault.{HearFault}
use Rattle.relay_follow.specs.declared.fault.HearFault.TheVariants.{NoMemory}
use Rattle.relay_hub.specs.declared.event.Answer.TheVariants.{Closed}
use Rattle.relay_hub.specs.declared.event.Event.{Event}
use Rattle.relay_hub.specs.declared.fault.HubFault.{HubFault}
use Rattle.relay_access.specs.declared.access.Access.{Access}
use Rattle.relay_tree.specs.Document.{Document}
use Rattle.relay_script.specs.Line.{Act, opens, says, draws, closes, shows, tells, Form, blank}
use Rattle.relay_script.specs.Line.{unknown, named}
use Rattle.relay_script.specs.Script.{Stage, stage, Opens, DoesWill, Closes, ActsOpen, Goes}
use Rattle.relay_script.specs.Script.{Attends, OnlyName, ActsNew, ActsNamed, Does, Answers}
use Rattle.relay_script.specs.Script.{client_of}
use Rattle.relay_script.specs.Transport.{Transporting, Telling}
use Rattle.relay_script.specs.declared.outcome.Outcome.{Outcome}
use Rattle.relay_script.specs.declared.outcome.Outcome.TheVariants.{Answered}
use Rattle.relay_script.specs.declared.script_client.ScriptClient.{ScriptClient}

module _ {T : Type 0} (comes : Transporting T) (telling : Telling T) where
  -- a name that was never opened
  pub ActsNamed-new : (name : List ℕ) (act : Act) (found : Option ScriptClient)
      (old mid new : Stage T) (answer : List ℕ) → found ≡ None → mid ≡ old
      → ActsNew comes name act mid new answer
      → ActsNamed comes telling name act found old new answer
  ActsNamed-new name act found old mid new answer none same acts =
      subst (λ f. ActsNamed comes telling name act f old new answer) (sym none) (subst (λ s.
      ActsNew comes name act s new answer) same acts)

  -- a name that was opened
  pub ActsNamed-known : (name : List ℕ) (act : Act) (found : Option ScriptClient)
      (p q : ScriptClient) (old new : Stage T) (answer : List ℕ) → found ≡ Some p
      → Attends comes telling name act p old.transport q new.transport answer
      → OnlyName name q old.clients new.clients
      → ActsNamed comes telling name act found old new answer
  ActsNamed-known name act found p q old new answer some attends only =
      subst (λ f. ActsNamed comes telling name act f old new answer) (sym some) (q, attends, only)

-- A script over one transport is a script over another, if `see` maps the states of the first to
-- those of the second, and each outcome of the first is one of the second.
module _ {S T : Type 0} (comes : Transporting S) (telling : Telling S) (others : Transporting T)
    (tellings : Telling T) (see : S → T)
    (same_comes : (old new : S) (event : Event) (outcome : Outcome) → comes old event outcome new
    → others (see old) event outcome (see new))
    (same_tells : (old : S) (s : ℕ) (shown : Result (Option (ℕ × Document)) HubFault)
    → telling old s shown → tellings (see old) s shown) where
  abbrev seen : Stage S → Stage T
  seen s = stage (see s.transport) s.clients

  opens_seen : (name room : List ℕ) (access : Access) (session : Option ℕ) (p q : ScriptClient)
      (old new : S) (answer : List ℕ)
      → Opens comes name room access session p old q new answer
      → Opens others name room access session p (see old) q (see new) answer
  opens_seen name room access (Some s) p q old new answer (kept, same, text) =
      (kept, ap see same, text)
  opens_seen name room access None p q old new answer (outcome, came, left, text) =
      (outcome, same_comes old new _ outcome came, left, text)

  wills_seen : (name : List ℕ) (outcome : Outcome) (old new : S) (rest : List ℕ)
      → DoesWill comes name outcome old new rest
      → DoesWill others name outcome (see old) (see new) rest
  wills_seen name (Answered Closed) old new rest (will, came, text) =
      (will, same_comes old new _ will came, text)
  wills_seen name outcome old new rest h = (ap see h.0, h.1)

  closes_seen : (name : List ℕ) (s : ℕ) (p q : ScriptClient) (old new : S) (answer : List ℕ)
      → Closes comes name s p old q new answer → Closes others name s p (see old) q (see new) answer
  closes_seen name s p q old new answer (outcome, mid, rest, came, wills, left, text) = (
    outcome,
    see mid,
    rest,
    same_comes old mid _ outcome came,
    wills_seen name outcome mid new rest wills,
    left,
    text,
  )

  acts_seen : (name : List ℕ) (act : Act) (session : Option ℕ) (p q : ScriptClient) (old new : S)
      (answer : List ℕ)
      → ActsOpen comes telling name act session p old q new answer
      → ActsOpen others tellings name act session p (see old) q (see new) answer
  acts_seen name (opens room access) session p q old new answer h =
      opens_seen name room access session p q old new answer h
  acts_seen name (says text) (Some s) p q old new answer (outcome, came, kept, written) =
      (outcome, same_comes old new _ outcome came, kept, written)
  acts_seen name draws (Some s) p q old new answer (outcome, came, drawn) =
      (outcome, same_comes old new _ outcome came, drawn)
  acts_seen name closes (Some s) p q old new answer h = closes_seen name s p q old new answer h
  acts_seen name shows session p q old new answer (kept, same, text) = (kept, ap see same, text)
  acts_seen name tells (Some s) p q old new answer (shown, told, kept, same, text) =
      (shown, same_tells old s shown told, kept, ap see same, text)
  acts_seen name (says text) None p q old new answer (kept, same, written) =
      (kept, ap see same, written)
  acts_seen name draws None p q old new answer (kept, same, written) = (kept, ap see same, written)
  acts_seen name closes None p q old new answer (kept, same, written) = (kept, ap see same, written)
  acts_seen name tells None p q old new answer (kept, same, written) = (kept, ap see same, written)

  goes_seen : (name : List ℕ) (act : Act) (fault : Option HearFault) (p q : ScriptClient)
      (old new : S) (answer : List ℕ)
      → Goes comes telling name act fault p old q new answer
      → Goes others tellings name act fault p (see old) q (see new) answer
  goes_seen name act (Some NoMemory) p q old new answer (kept, same, text) =
      (kept, ap see same, text)
  goes_seen name act _ p q old new answer (rest, acts, text) =
      (rest, acts_seen name act p.session p q old new rest acts, text)

  attends_seen : (name : List ℕ) (act : Act) (p q : ScriptClient) (old new : S) (answer : List ℕ)
      → Attends comes telling name act p old q new answer
      → Attends others tellings name act p (see old) q (see new) answer
  attends_seen name act p q old new answer (mid, fault, hears, goes) =
      (mid, fault, hears, goes_seen name act fault _ q old new answer goes)

  begins_seen : (name : List ℕ) (act : Act) (old new : Stage S) (answer : List ℕ)
      → ActsNew comes name act old new answer → ActsNew others name act (seen old) (seen new) answer
  begins_seen name (opens room access) old new answer (outcome, came, entered, text) =
      (outcome, same_comes old.transport new.transport _ outcome came, entered, text)
  begins_seen name (says text) old new answer (same, kept, written) = (ap see same, kept, written)
  begins_seen name draws old new answer (same, kept, written) = (ap see same, kept, written)
  begins_seen name closes old new answer (same, kept, written) = (ap see same, kept, written)
  begins_seen name shows old new answer (same, kept, written) = (ap see same, kept, written)
  begins_seen name tells old new answer (same, kept, written) = (ap see same, kept, written)

  named_seen : (name : List ℕ) (act : Act) (found : Option ScriptClient) (old new : Stage S)
      (answer : List ℕ)
      → ActsNamed comes telling name act found old new answer
      → ActsNamed others tellings name act found (seen old) (seen new) answer
  named_seen name act None old new answer h = begins_seen name act old new answer h
  named_seen name act (Some p) old new answer (q, attends, only) =
      (q, attends_seen name act p q old.transport new.transport answer attends, only)

  does_seen : (number : ℕ) (form : Form) (old new : Stage S) (answer : List ℕ)
      → Does comes telling number form old new answer
      → Does others tellings number form (seen old) (seen new) answer
  does_seen number blank old new answer (same, kept, text) = (ap see same, kept, text)
  does_seen number unknown old new answer (same, kept, text) = (ap see same, kept, text)
  does_seen number (named name act) old new answer h =
      named_seen name act (client_of old.clients name) old new answer h

  pub answers_seen : (old new : Stage S) (number : ℕ) (line answer : List ℕ)
      → Answers comes telling old number line new answer
      → Answers others tellings (stage (see old.transport) old.clients) number line
      (stage (see new.transport) new.clients) answer
  answers_seen old new number line answer (form, is, does) =
      (form, is, does_seen number form old new answer does)

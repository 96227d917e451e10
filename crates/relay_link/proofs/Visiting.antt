-- The parts of a visit go on together.
use Rattle.std.proofs.Common.{◌≡◌, inl, inr, ◌≤◌, ◌+◌, ℕ, true, false, List, [], ◌∷◌}
use Rattle.std.proofs.Common.{◌++◌, length, Option, Some, None, option_to_list, is_some}
use Rattle.std.proofs.Common.{Result, Ok, Err, refl, sym, subst}
use Rattle.std.proofs.Common.{ap, ◌∙◌, append-nil, arith}
use Rattle.std.proofs.lemmas.List.Sums.{sum_by-append}
use Rattle.relay_hub.specs.Call.{StepIf, opening}
use Rattle.relay_hub.specs.State.{State as Hub}
use Rattle.relay_hub.specs.Step.{Step}
use Rattle.relay_hub.specs.declared.event.Answer.{Answer}
use Rattle.relay_hub.specs.declared.event.Answer.TheVariants.{Opened, NotOpened}
use Rattle.relay_hub.specs.declared.event.Event.{Event}
use Rattle.relay_hub.specs.declared.event.Event.TheVariants.{Open, Receive}
use Rattle.relay_hub.specs.declared.event.Opening.{Opening}
use Rattle.relay_hub.specs.declared.fault.OpenFault.{OpenFault}
use Rattle.relay_hub.specs.declared.fault.OpenFault.TheVariants as fault
use Rattle.relay_access.specs.declared.access.Access.{Access}
use Rattle.relay_link.specs.Adds.{Adds, draws}
use Rattle.relay_link.specs.Follows.{Point, Rooms, is_room, at, session_after, Follows, stays}
use Rattle.relay_link.specs.Follows.{makes, drawn}
use Rattle.relay_link.specs.Hears.{Passes}
use Rattle.relay_link.specs.Tells.{Drew}
use Rattle.relay_link.specs.Visits.{Opens, entered_as, opening_of, heard_in, DrewAll, IfAnswered}
use Rattle.relay_link.specs.Visits.{Visits}
use Rattle.relay_link.specs.declared.visit.TheConstants.{MAX_TEXTS}
use Rattle.relay_link.specs.declared.visit.Visit.{Visit}
use Rattle.relay_link.specs.declared.visit_outcome.VisitOutcome.{VisitOutcome}
use Rattle.relay_link.specs.declared.visit_outcome.VisitOutcome.TheVariants.{Refused, Unheard}
use Rattle.relay_link.specs.declared.visit_outcome.VisitOutcome.TheVariants.{Undrawn, Answered}
use Rattle.relay_link.proofs.Following.{went_on}
use Rattle.relay_link.proofs.Telling.{drew_then}

-- ---- an opening

module _ {rooms : Rooms} (old new : Hub) (before after : List Event) (room : List ℕ)
    (access : Access) where
  opens_one : (answer : Answer) → after ≡ before ++ Open room access ∷ [] → rooms room access
      → Step old (Open room access) answer new → Opens rooms (answer ∷ []) [] (at old None before)
      (at new (session_after None (Open room access) answer) after)
  opens_one answer m asked step =
      subst (λ x.
      Opens rooms (answer ∷ []) [] (at old None before)
      (at new (session_after None (Open room access) answer) x)) (sym m) (record {
        follows = makes (Open room access) answer stays (refl, asked) step;
        answers_are = refl;
        texts_are = refl;
      })

  -- one that has an answer is one event
  pub opens_answered : (opened : Result Opening OpenFault) → true ≡ is_some (opening opened)
      → StepIf old (Open room access) (opening opened) new → after ≡ before ++ Open room access ∷ []
      → rooms room access
      → Opens rooms (option_to_list (opening opened)) [] (at old None before)
      (at new (entered_as opened) after)
  opens_answered (Ok o) e step m asked = opens_one (Opened o) m asked step
  opens_answered (Err fault.RoomName) e step m asked =
      opens_one (NotOpened fault.RoomName) m asked step
  opens_answered (Err fault.RoomsFull) e step m asked =
      opens_one (NotOpened fault.RoomsFull) m asked step
  opens_answered (Err fault.SessionsFull) e step m asked =
      opens_one (NotOpened fault.SessionsFull) m asked step
  opens_answered (Err fault.Exhausted) e step m asked =
      opens_one (NotOpened fault.Exhausted) m asked step
  opens_answered (Err fault.NoMemory) e step m asked = absurd (cc e)

  opens_same : new ≡ old → after ≡ before
      → Opens rooms [] [] (at old None before) (at new None after)
  opens_same h m = rw (h, m) (record { follows = stays; answers_are = refl; texts_are = refl })

  -- one that has none changed nothing
  pub opens_unanswered : (opened : Result Opening OpenFault) → false ≡ is_some (opening opened)
      → StepIf old (Open room access) (opening opened) new → after ≡ before
      → Opens rooms (option_to_list (opening opened)) [] (at old None before)
      (at new (entered_as opened) after)
  opens_unanswered (Ok o) e step m = absurd (cc e)
  opens_unanswered (Err fault.RoomName) e step m = absurd (cc e)
  opens_unanswered (Err fault.RoomsFull) e step m = absurd (cc e)
  opens_unanswered (Err fault.SessionsFull) e step m = absurd (cc e)
  opens_unanswered (Err fault.Exhausted) e step m = absurd (cc e)
  opens_unanswered (Err fault.NoMemory) e step m = opens_same step m

-- the session that was opened, if there is one
pub follows_opened : {rooms : Rooms} {answers : List Answer} {texts : List (List ℕ)} {p : Point}
    (hub : Hub) (session entered : Option ℕ) (events : List Event)
    → Opens rooms answers texts p (at hub entered events) → session ≡ entered
    → Follows rooms p (at hub session events)
follows_opened {rooms = rooms} {p = p} hub session entered events opens same =
    subst (λ s. Follows rooms p (at hub s events)) (sym same) opens.follows

-- what a session draws after it was opened
pub opens_then : {rooms : Rooms} {answers : List Answer} (texts : List (List ℕ)) (p q r : Point)
    → Opens rooms answers [] p q → Drew texts q r → Opens rooms answers texts p r
opens_then texts p q r opens drew =
    let both = went_on opens.follows drew.follows in
    record {
      follows = both.0;
      answers_are = both.2 ∙ opens.answers_are;
      texts_are = both.1 ∙ ap (λ l. l ++ drawn drew.follows) opens.texts_are ∙ drew.texts_are;
    }

-- ---- the texts that were drawn

-- one text more
pub drew_text : (before after : List (List ℕ)) (text : List ℕ) (p q r : Point)
    → after ≡ before ++ text ∷ [] → Drew before p q → Drew (text ∷ []) q r → Drew after p r
drew_text before after text p q r m f g =
    subst (λ texts. Drew texts p r) (sym m) (drew_then before (text ∷ []) p q r f g)

-- no text more
pub drew_on : (texts : List (List ℕ)) (p q r : Point) → Drew texts p q → Drew [] q r
    → Drew texts p r
drew_on texts p q r f g =
    subst (λ t. Drew t p r) (append-nil texts) (drew_then texts [] p q r f g)

-- ---- what a visit comes to

if_answered : (outcome : VisitOutcome) (P Q : Type 0) → (P → Q) → IfAnswered outcome P
    → IfAnswered outcome Q
if_answered (Answered o) P Q so holds = so holds
if_answered (Undrawn o) P Q so holds = tt
if_answered (Unheard o) P Q so holds = tt
if_answered (Refused f) P Q so holds = tt

-- other events around them draw no less
pub drew_within : (before first mid after : List Event) (texts : List (List ℕ))
    → draws before ≤ draws first → draws mid ≤ draws after → DrewAll first mid texts
    → DrewAll before after texts
drew_within before first mid after texts earlier later drew = elim drew [
  | inl nothing ↦ inl (omega (arith, nothing, earlier, later))
  | inr many ↦ inr many
]

-- a text that is passed to the hub draws nothing
pub drew_received : (before mid after : List Event) (texts : List (List ℕ)) (s : ℕ)
    (text : List ℕ) → mid ≡ before ++ Receive s text ∷ [] → DrewAll mid after texts
    → DrewAll before after texts
drew_received before mid after texts s text m =
    drew_within before mid after after texts (grind (arith, ap draws m, sum_by-append))
    (omega arith)

pub drew_all_within : (outcome : VisitOutcome) (before first mid after : List Event)
    (texts : List (List ℕ)) → draws before ≤ draws first → draws mid ≤ draws after
    → IfAnswered outcome (DrewAll first mid texts) → IfAnswered outcome (DrewAll before after texts)
drew_all_within outcome before first mid after texts earlier later =
    if_answered outcome (DrewAll first mid texts) (DrewAll before after texts)
    (drew_within before first mid after texts earlier later)

module _ (room text : List ℕ) (access : Access) (hub next : Hub) (visit : Visit)
    (events : List Event) (is_events : visit.events.items ≡ events) where
  -- the hub opened no session
  pub visits_refused : (fault : OpenFault) → visit.outcome ≡ Refused fault
      → visit.texts.items ≡ []
      → Opens (is_room room access) (option_to_list (opening (Err fault))) [] (at hub None [])
      (at next None events)
      → Passes [] events [] → Adds 1 0 0 [] events → Visits room access text hub next visit
  visits_refused fault outcome none opens passes adds = record {
    opens = rw (outcome, none, is_events) opens;
    heard = rw (outcome, is_events) passes;
    drew_all = rw outcome tt;
    few_texts = rw none (omega arith);
    few_events = rw is_events (omega (arith, adds.events));
  }

  -- a session was opened, and stayed
  pub visits_stayed : (mid : Hub) (o : Opening) (outcome : VisitOutcome)
      (texts : List (List ℕ)) (first : List Event)
      → visit.outcome ≡ outcome → visit.texts.items ≡ texts
      → Opens (is_room room access) (option_to_list (opening (Ok o))) [] (at hub None [])
      (at mid (Some o.session) first)
      → Passes [] first [] → Adds 1 0 0 [] first → opening_of outcome ≡ Ok o
      → Drew texts (at mid (Some o.session) first) (at next None events)
      → Passes first events (heard_in outcome text)
      → IfAnswered outcome (DrewAll first events texts) → length texts ≤ MAX_TEXTS
      → Adds (MAX_TEXTS + 2) 1 MAX_TEXTS first events → Visits room access text hub next visit
  visits_stayed mid o outcome texts first is_outcome is_texts opens quiet begun same drew passes
      drew_all few adds = record {
        opens = rw (is_outcome, is_texts, is_events, same)
            (opens_then texts _ _ _ opens drew);
        heard = rw (is_outcome, is_events) (passes ∙ ap (λ l. l ++ heard_in outcome text) quiet);
        drew_all = rw (is_outcome, is_texts, is_events)
            (drew_all_within outcome [] first events events texts (omega arith) (omega arith)
            drew_all);
        few_texts = rw is_texts few;
        few_events = rw is_events (omega (arith, adds.events, begun.events));
      }

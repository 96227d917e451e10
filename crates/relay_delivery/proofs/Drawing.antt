-- A client that hears the texts that a turn drew keeps up, and is never lost.
use Rattle.std.proofs.Common.{◌≡◌, ◌≢◌, ◌⊎◌, inl, inr, ℕ, ◌==◌, Bool, true, false, List, [], ◌∷◌}
use Rattle.std.proofs.Common.{◌++◌, Option, Some, None, Result, Ok, Err, refl, sym, ◌∙◌, ap, subst}
use Rattle.std.proofs.Common.{arith, append-nil, slice_get, if◌then◌else◌}
use Rattle.std.specs.Prelude.{option_map}
use Rattle.std.proofs.lemmas.Bool.Decides.{nat_tests}
use Rattle.relay_follow.specs.Hearing.{told}
use Rattle.relay_hub.specs.Admitted.{affordable, unless_unpaid, unpaid_slot}
use Rattle.relay_hub.specs.Log.{Log, Stay, Watching, begun, entry, home, documents, watching}
use Rattle.relay_hub.specs.Log.{hearing, resumes_from, asked, asked_at_home}
use Rattle.relay_hub.specs.Session.{Session, later}
use Rattle.relay_hub.specs.Stands.{HoldsPresent}
use Rattle.relay_hub.specs.State.{State, RoomSessions, home_of, session_in}
use Rattle.relay_hub.specs.Step.{Step}
use Rattle.relay_hub.specs.declared.config.HubConfig.{HubConfig}
use Rattle.relay_hub.specs.declared.event.Answer.{Answer}
use Rattle.relay_hub.specs.declared.event.Answer.TheVariants.{Opened, NotOpened, Heard, Drawn}
use Rattle.relay_hub.specs.declared.event.Answer.TheVariants.{Closed, WillDone, NoWill, Forgotten}
use Rattle.relay_hub.specs.declared.event.Answer.TheVariants.{NotForgotten, Adopted}
use Rattle.relay_hub.specs.declared.event.Answer.TheVariants.{NotAdopted, FloorRaised, NoSession}
use Rattle.relay_hub.specs.declared.event.Event.TheVariants.{Open, Receive, Draw, Close, DoWill}
use Rattle.relay_hub.specs.declared.event.Event.TheVariants.{Forget, Adopt, RaiseFloor}
use Rattle.relay_hub.specs.declared.event.Heard.TheVariants.{Answered, Busy}
use Rattle.relay_hub.proofs.Stands.{step_stands}
use Rattle.relay_hub.proofs.Watchers.{exactly_held}
use Rattle.relay_link.specs.Follows.{Point, no_opening, Follows, stays, makes, with_events, drawn}
use Rattle.relay_link.specs.Follows.{drawn_by}
use Rattle.relay_proto.specs.Client.{Client, nothing, holds, lost, client, client_after}
use Rattle.relay_proto.specs.Request.{request_of_text}
use Rattle.relay_proto.specs.declared.refusal.Refusal.{Refusal}
use Rattle.relay_proto.specs.declared.request.Request.{Request}
use Rattle.relay_proto.specs.declared.request.Request.TheVariants.{Edit, Will, Watch, Resume}
use Rattle.relay_proto.specs.declared.request.Request.TheVariants.{Unwatch}
use Rattle.relay_tree.specs.Document.{Document}
use Rattle.relay_tree.specs.declared.budget.Budget.{Budget}
use Rattle.relay_view.specs.View.{View, view}
use Rattle.relay_delivery.specs.Texts.{told_all}
use Rattle.relay_delivery.specs.Turn.{Tracks, KeepsUp, StartsAsHeld, Resumes, Delivered}
use Rattle.relay_delivery.proofs.Fronts.{drawn_leads}

-- ---- a client that is never lost

-- the client after texts that are messages, none of which loses it
pub data Survives : Client → List (List ℕ) → Client → Type 0 where
  same : {c : Client} → Survives c [] c
  hears : {c m next : Client} {texts : List (List ℕ)} (text : List ℕ) → told c text ≡ Some m
      → m ≢ lost → Survives m texts next → Survives c (text ∷ texts) next

survives_then : {c m next : Client} {xs ys : List (List ℕ)} → Survives c xs m → Survives m ys next
    → Survives c (xs ++ ys) next
survives_then same more = more
survives_then (hears text told found rest) more = hears text told found (survives_then rest more)

pub survives_told : {c next : Client} {texts : List (List ℕ)} → Survives c texts next
    → told_all c texts ≡ Some next
survives_told same = refl
survives_told (hears text told found rest) = rw told (survives_told rest)

-- a client that keeps up after these texts, and was never lost
pub record Stays (b : HubConfig) (E : Log) (hub : State) (s : ℕ) (c : Client)
    (texts : List (List ℕ)) : Type 0 where
  pub client_is : Client
  pub survives : Survives c texts client_is
  pub keeps : KeepsUp b E hub s client_is
  pub found : client_is ≢ lost

-- ---- a request

-- what a request makes of a watching, its client follows; a resume is that of a client that holds
-- what it resumes from
tracks_resume : (c : Client) (rev : ℕ) (pointers : View) (was : Option Watching)
    (d : Option Document) → ((e : Document) → d ≡ Some e → c ≡ holds rev (view pointers e))
    → Tracks c was
    → Tracks c (resumes_from was rev pointers d)
tracks_resume c rev pointers was (Some d) starts before = inl (starts d refl)
tracks_resume c rev pointers was None starts before = before

tracks_known : (c : Client) (rev : ℕ) (pointers : View) (ds : List Document)
    (was : Option Watching) (this : Bool)
    → (this ≡ true → (d : Document) → slice_get ds rev ≡ Some d → c ≡ holds rev (view pointers d))
    → Tracks c was → Tracks c (if this then resumes_from was rev pointers (slice_get ds rev)
    else Some (begun pointers nothing))
tracks_known c rev pointers ds was true starts before =
    tracks_resume c rev pointers was (slice_get ds rev) (starts refl) before
tracks_known c rev pointers ds was false starts before = inr (refl, refl)

tracks_asked : (c : Client) (epoch : ℕ) (ds : List Document) (was : Option Watching)
    (request : Result Request Refusal)
    → ((id rev : ℕ) (pointers : View) (d : Document) → request ≡ Ok (Resume id epoch rev pointers)
    → slice_get ds rev ≡ Some d → c ≡ holds rev (view pointers d))
    → Tracks c was → Tracks c (asked epoch ds was request)
tracks_asked c epoch ds was (Err r) starts before = before
tracks_asked c epoch ds was (Ok (Edit id base patch)) starts before = before
tracks_asked c epoch ds was (Ok (Will id patch)) starts before = before
tracks_asked c epoch ds was (Ok (Watch id pointers)) starts before = inr (refl, refl)
tracks_asked c epoch ds was (Ok (Unwatch id)) starts before = tt
tracks_asked c epoch ds was (Ok (Resume id e rev pointers)) starts before =
    tracks_known c rev pointers ds was (e == epoch)
    (λ this d there.
    let present : e ≡ epoch = grind (arith, nat_tests, this) in
    starts id rev pointers d (ap (λ n. Ok (Resume id n rev pointers)) present) there)
    before

-- a request that is not refused for its weight is the one that was read
unless_ok : (o : Option ℕ) (id : ℕ) (request asked : Request)
    → unless_unpaid o id request ≡ Ok asked → request ≡ asked
unless_ok None id request asked is = cc is
unless_ok (Some at) id request asked is = absurd (cc is)

affordable_ok : (budget : Budget) (request : Result Request Refusal) (asked : Request)
    → affordable budget request ≡ Ok asked → request ≡ Ok asked
affordable_ok budget (Err r) asked is = is
affordable_ok budget (Ok (Edit id base patch)) asked is = is
affordable_ok budget (Ok (Will id patch)) asked is = is
affordable_ok budget (Ok (Unwatch id)) asked is = is
affordable_ok budget (Ok (Watch id pointers)) asked is =
    ap Ok (unless_ok (unpaid_slot 0 budget pointers) id (Watch id pointers) asked is)
affordable_ok budget (Ok (Resume id epoch rev pointers)) asked is =
    ap Ok (unless_ok (unpaid_slot 0 budget pointers) id (Resume id epoch rev pointers) asked is)

tracks_at_home : (c : Client) (b : HubConfig) (ds : List ℕ
    → List Document) (was : Option Watching) (there : Option Stay) (text : List ℕ)
    → ((id rev : ℕ) (pointers : View) (home : Stay) (d : Document) → there ≡ Some home
    → request_of_text text ≡ Ok (Resume id b.epoch rev pointers)
    → slice_get (ds home.room) rev ≡ Some d → c ≡ holds rev (view pointers d))
    → Tracks c was → Tracks c (asked_at_home b ds was there text)
tracks_at_home c b ds was (Some home) text starts before =
    tracks_asked c b.epoch (ds home.room) was (affordable b.view_weight (request_of_text text))
    (λ id rev pointers d is there.
    let resume = Resume id b.epoch rev pointers in
    let read = affordable_ok b.view_weight (request_of_text text) resume is in
    starts id rev pointers home d refl read there)
    before
tracks_at_home c b ds was None text starts before = before

module _ (b : HubConfig) (E : Log) (s : ℕ) (c : Client) (before : Tracks c (watching b E s)) where
  after_request : (text : List ℕ) (answer : Answer) → StartsAsHeld b E s c (Receive s text)
      → Tracks c (watching b (entry (Receive s text) answer ∷ E) s)
  after_request text (Heard (Answered short)) starts =
      let mine : (s == s) ≡ true = grind (arith, nat_tests) in
      rw mine (tracks_at_home c b (documents E) (watching b E s) (home E s) text starts before)
  after_request text (Heard Busy) starts = before
  after_request text (Opened o) starts = before
  after_request text (NotOpened fault) starts = before
  after_request text (Drawn drew) starts = before
  after_request text Closed starts = before
  after_request text (WillDone short) starts = before
  after_request text NoWill starts = before
  after_request text (Forgotten rev) starts = before
  after_request text (NotForgotten fault) starts = before
  after_request text Adopted starts = before
  after_request text (NotAdopted fault) starts = before
  after_request text FloorRaised starts = before
  after_request text NoSession starts = before

-- ---- a draw

module _ (b : HubConfig) (E : Log) (hub new : State) (s : ℕ) (c : Client)
    (before : KeepsUp b E hub s c) (found : c ≢ lost) where
  drew_own : (text : Option (List ℕ))
      → watching b (entry (Draw s) (Drawn text) ∷ E) s ≡ hearing text (watching b E s)
  drew_own text =
      let mine : (s == s) ≡ true = grind (arith, nat_tests) in
      rw mine refl

  -- no text came
  quiet : (answer : Answer) → drawn_by (Draw s) answer ≡ [] → Step hub (Draw s) answer new
      → watching b (entry (Draw s) answer ∷ E) s ≡ watching b E s
      → Stays b (entry (Draw s) answer ∷ E) new s c (drawn_by (Draw s) answer)
  quiet answer none step watches = record {
    client_is = c;
    survives = subst (λ texts. Survives c texts c) (sym none) same;
    keeps =
        record {
          stands = step_stands b E hub new (Draw s) answer before.stands step;
          tracks = subst (Tracks c) (sym watches) before.tracks;
        };
    found = found;
  }

  stays_draw : (answer : Answer) → Step hub (Draw s) answer new
      → Stays b (entry (Draw s) answer ∷ E) new s c (drawn_by (Draw s) answer)
  stays_draw (Drawn (Some text)) step =
      let leads = drawn_leads b E hub new s c text before.stands before.tracks found step in
      let next = client c leads.message in
      let reads : told c text ≡ Some next = ap (option_map (client c)) leads.reads in
      record {
        client_is = next;
        survives = hears text reads leads.found same;
        keeps = record {
          stands = step_stands b E hub new (Draw s) (Drawn (Some text)) before.stands step;
          tracks = subst (Tracks next) (sym (drew_own (Some text))) leads.tracks;
        };
        found = leads.found;
      }
  stays_draw (Drawn None) step = quiet (Drawn None) refl step (drew_own None)
  stays_draw (Opened o) step = quiet (Opened o) refl step refl
  stays_draw (NotOpened fault) step = quiet (NotOpened fault) refl step refl
  stays_draw (Heard heard) step = quiet (Heard heard) refl step refl
  stays_draw Closed step = quiet Closed refl step refl
  stays_draw (WillDone short) step = quiet (WillDone short) refl step refl
  stays_draw NoWill step = quiet NoWill refl step refl
  stays_draw (Forgotten rev) step = quiet (Forgotten rev) refl step refl
  stays_draw (NotForgotten fault) step = quiet (NotForgotten fault) refl step refl
  stays_draw Adopted step = quiet Adopted refl step refl
  stays_draw (NotAdopted fault) step = quiet (NotAdopted fault) refl step refl
  stays_draw FloorRaised step = quiet FloorRaised refl step refl
  stays_draw NoSession step = quiet NoSession refl step refl

-- ---- the events of a turn

-- a link that opens no room has its session or none
own_session : {p q : Point} (s : ℕ) → Follows no_opening p q → p.session ≡ Some s
    → (q.session ≡ Some s) ⊎ (q.session ≡ None)
own_session s stays is = inl is
own_session s (makes (Open room access) answer before own step) is = absurd own.1
own_session s (makes (Receive t text) answer before own step) is = own_session s before is
own_session s (makes (Draw t) answer before own step) is = own_session s before is
own_session s (makes (Close t) answer before own step) is = inr refl
own_session s (makes DoWill answer before own step) is = absurd own
own_session s (makes (Forget room) answer before own step) is = absurd own
own_session s (makes (Adopt room rev d) answer before own step) is = absurd own
own_session s (makes (RaiseFloor rev) answer before own step) is = absurd own

its_own : (q : Option ℕ) (s t : ℕ) → (q ≡ Some s) ⊎ (q ≡ None) → q ≡ Some t → t ≡ s
its_own q s t held is =
    elim held [
      | inl some ↦ cc (some, is)
      | inr none ↦ absurd (cc (none, is))
    ]

-- the link still has its session after the events
pub stays_turn : (b : HubConfig) (E : Log) (s t : ℕ) (c : Client) {p q : Point}
    (follows : Follows no_opening p q) → p.session ≡ Some s → q.session ≡ Some t
    → Resumes b E s c follows
    → KeepsUp b E p.hub s c → c ≢ lost → Stays b (with_events follows E) q.hub s c (drawn follows)
stays_turn b E s t c stays is still resumes before found =
    record { client_is = c; survives = same; keeps = before; found = found }
stays_turn b E s t c
    (makes (Open room access) answer follows own step) is still resumes before found = absurd own.1
stays_turn b E s t c (makes {q = q} {hub = hub} (Receive u text) answer follows own step) is still
    resumes before found =
    let mine : u ≡ s = its_own q.session s u (own_session s follows is) own in
    let until = stays_turn b E s u c follows is own resumes.0 before found in
    let starts : StartsAsHeld b (with_events follows E) s until.client_is (Receive u text) =
    resumes.1 until.client_is (survives_told until.survives) in
    subst (λ v.
    Stays b (entry (Receive v text) answer ∷ with_events follows E) hub s c (drawn follows
    ++ [])) (sym mine)
    (record {
      client_is = until.client_is;
      survives = survives_then {m = until.client_is} {next = until.client_is} until.survives same;
      keeps = record {
        stands =
            step_stands b (with_events follows E) q.hub hub (Receive s text) answer
            until.keeps.stands (subst (λ v. Step q.hub (Receive v text) answer hub) mine step);
        tracks =
            after_request b (with_events follows E) s until.client_is until.keeps.tracks text
            answer (subst (λ v.
            StartsAsHeld b (with_events follows E) s until.client_is (Receive v text)) mine
            starts);
      };
      found = until.found;
    })
stays_turn b E s t c (makes {q = q} {hub = hub} (Draw u) answer follows own step) is still resumes
    before found =
    let mine : u ≡ s = its_own q.session s u (own_session s follows is) own in
    let until = stays_turn b E s u c follows is own resumes.0 before found in
    let last =
    stays_draw b (with_events follows E) q.hub hub s until.client_is until.keeps
    until.found answer (subst (λ v. Step q.hub (Draw v) answer hub) mine step) in
    subst (λ v.
    Stays b (entry (Draw v) answer ∷ with_events follows E) hub s c (drawn follows
    ++ drawn_by (Draw v) answer)) (sym mine)
    (record {
      client_is = last.client_is;
      survives =
          survives_then {m = until.client_is} {next = last.client_is} until.survives last.survives;
      keeps = last.keeps;
      found = last.found;
    })
stays_turn b E s t c (makes (Close u) answer follows own step) is still resumes before found =
    absurd (cc still)
stays_turn b E s t c (makes DoWill answer follows own step) is still resumes before found =
    absurd own
stays_turn b E s t c (makes (Forget room) answer follows own step) is still resumes before found =
    absurd own
stays_turn b E s t c
    (makes (Adopt room rev d) answer follows own step) is still resumes before found = absurd own
stays_turn b E s t c
    (makes (RaiseFloor rev) answer follows own step) is still resumes before found = absurd own

-- ---- what it holds when nothing waits

present : (b : HubConfig) (E : Log) (hub : State) (s : ℕ) (c : Client) → KeepsUp b E hub s c
    → (name : List ℕ) (g : RoomSessions) (x : Session) (w : Watching)
    → home_of hub s ≡ Some (name, g) → session_in g.sessions s ≡ Some x → watching b E s ≡ Some w
    → later g.room w.view x.outbox ≡ [] → HoldsPresent (documents E name) w.view c
present b E hub s c keeps name g x w there is watches none =
    let whole : w.heard ++ later g.room w.view x.outbox ≡ w.heard =
    ap (λ l. w.heard ++ l) none ∙ append-nil w.heard in
    let now : HoldsPresent (documents E name) w.view (client_after w.start w.heard) =
    rw whole at (exactly_held b E hub s name g x w keeps.stands there is watches) in
    let tracks : Tracks c (Some w) = subst (Tracks c) watches keeps.tracks in
    elim tracks [
      | inl held ↦ rw held now
      | inr new ↦ absurd (rw (new.0, new.1) at now)
    ]

pub holds_present : (b : HubConfig) (E : Log) (hub : State) (s : ℕ) (c : Client)
    → KeepsUp b E hub s c → Delivered b E hub s c
holds_present b E hub s c keeps = record { keeps_up = keeps; exactly = present b E hub s c keeps }

-- Each step keeps a hub standing for its log.
use Rattle.std.proofs.Common.{◌≡◌, ℕ, ◌==◌, List, [], ◌∷◌, Option, Some, None, Result, Ok, Err}
use Rattle.std.proofs.Common.{refl, sym, ap, subst, slice_get, nat_le}
use Rattle.relay_proto.proofs.Counts.{request_counts}
use Rattle.relay_proto.specs.Request.{request_of_text}
use Rattle.relay_proto.specs.declared.refusal.Refusal.{Refusal}
use Rattle.relay_proto.specs.declared.request.Request.{Request}
use Rattle.relay_proto.specs.declared.request.Request.TheVariants.{Edit, Will, Watch, Resume}
use Rattle.relay_proto.specs.declared.request.Request.TheVariants.{Unwatch}
use Rattle.relay_room.specs.Edit.{edited}
use Rattle.relay_room.specs.Room.{revision}
use Rattle.relay_hub.specs.Call.{StepIf, logged, Runs, stops, steps, followed}
use Rattle.relay_hub.specs.Log.{Log, entry}
use Rattle.relay_hub.specs.Admitted.{admitted}
use Rattle.relay_hub.specs.Session.{Session}
use Rattle.relay_hub.specs.Stands.{StandsFor}
use Rattle.relay_hub.specs.State.{RoomSessions, State, RoomOf, Home, index_of, session_in}
use Rattle.relay_hub.specs.Step.{Serves, Receives, Draws, with_room, InRoom, AtIndex, ClosesIn}
use Rattle.relay_hub.specs.Step.{ClosesInRoom, ClosesAt, Step}
use Rattle.relay_hub.specs.declared.config.HubConfig.{HubConfig}
use Rattle.relay_hub.specs.declared.event.Answer.{Answer}
use Rattle.relay_hub.specs.declared.event.Answer.TheVariants.{Opened, NotOpened, Heard, Drawn}
use Rattle.relay_hub.specs.declared.event.Answer.TheVariants.{Closed, Forgotten, NotForgotten}
use Rattle.relay_hub.specs.declared.event.Answer.TheVariants.{Adopted, NotAdopted, FloorRaised}
use Rattle.relay_hub.specs.declared.event.Answer.TheVariants.{NoSession}
use Rattle.relay_hub.specs.declared.event.Event.{Event}
use Rattle.relay_hub.specs.declared.event.Event.TheVariants.{Open, Receive, Draw, Close, DoWill}
use Rattle.relay_hub.specs.declared.event.Event.TheVariants.{Forget, Adopt, RaiseFloor}
use Rattle.relay_hub.specs.declared.event.Heard.TheVariants.{Answered, Busy}
use Rattle.relay_hub.proofs.Admissions.{admitted_sent, other_sent}
use Rattle.relay_hub.proofs.Counts.{edit_refusal_counts}
use Rattle.relay_hub.proofs.Doors.{open_stands, close_stands}
use Rattle.relay_hub.proofs.Bequests.{does_will_stands}
use Rattle.relay_hub.proofs.Draws.{draw_stands}
use Rattle.relay_hub.proofs.Forgetting.{forget_stands, adopt_stands, raise_stands}
use Rattle.relay_hub.proofs.Frames.{Quiet, unaffected, session_stands}
use Rattle.relay_hub.proofs.Lists.{slice_set_same}
use Rattle.relay_hub.proofs.Served.{served_refusal, served_will, served_watch, served_unwatch}
use Rattle.relay_hub.proofs.Served.{served_resume, served_edit}

-- Events in the room of a session.

-- an open session is in its room
never_absent : (b : HubConfig) (E : Log) (hub : State) (s : ℕ) (r : RoomOf hub) → StandsFor b E hub
    → index_of hub s ≡ Some r.index → session_in r.room_sessions.sessions s ≡ None → ⊥
never_absent b E hub s r stands at none =
    let found = session_stands b E hub s r stands at in rw none at found

-- an unchanged room leaves the hub unchanged
same_room_sessions : (hub : State) (r : RoomOf hub) (h : RoomSessions) → h ≡ r.room_sessions
    → with_room r.index r.name h hub ≡ hub
same_room_sessions hub r h same =
    rw same (ap (λ (rooms : List (List ℕ × RoomSessions)).
    record hub { rooms = rooms }) (slice_set_same hub.rooms r.index (
      r.name,
      r.room_sessions,
    ) r.there))

serve_stands : (b : HubConfig) (E : Log) (old : State) (s : ℕ) (mine : Home old s)
    (h : RoomSessions) (short : ℕ) (text : List ℕ) (request : Result Request Refusal)
    → StandsFor b E old
    → admitted b.view_weight mine.session.access (request_of_text text) ≡ request
    → Serves b s mine.session request short mine.room.room_sessions h
    → StandsFor b (entry (Receive s text) (Heard (Answered short)) ∷ E)
    (with_room mine.room.index mine.room.name h old)
serve_stands b E old s mine h short text (Err r) stands read step =
    served_refusal b E old s mine h short text stands r read step.1
serve_stands b E old s mine h short text (Ok (Watch id v)) stands read step =
    served_watch b E old s mine h short text stands id v read step.1
serve_stands b E old s mine h short text (Ok (Will id patch)) stands read step =
    served_will b E old s mine h short text stands id patch read step.1
serve_stands b E old s mine h short text (Ok (Unwatch id)) stands read step =
    served_unwatch b E old s mine h short text stands id read step.1
serve_stands b E old s mine h short text (Ok (Resume id e rev v)) stands read step =
    let is =
    other_sent b.view_weight mine.session.access (request_of_text text) (Resume id e rev v)
    tt read in
    served_resume b E old s mine h short text stands id e rev v (e == b.epoch)
    (nat_le rev (revision mine.room.room_sessions.room)) is.0 is.1 refl refl step.1
    (request_counts text (Resume id e rev v) is.0).0
serve_stands b E old s mine h short text (Ok (Edit id base patch)) stands read step =
    let is =
    admitted_sent b.view_weight mine.session.access (request_of_text text)
    (Edit id base patch) read in
    let counts = request_counts text (Edit id base patch) is.1 in
    let room = mine.room.room_sessions.room in
    let last =
    (stands.rooms mine.room.index mine.room.name mine.room.room_sessions
    mine.room.there).is.history.last in
    served_edit b E old s mine h short text stands id base patch is.0 is.1 counts.0
    (edited room base patch) refl
    (λ fault r unmade is.
    edit_refusal_counts room id base patch fault r counts.0 last counts.2 unmade is) step

receive_stands : (b : HubConfig) (E : Log) (old : State) (s : ℕ) (r : RoomOf old)
    (h : RoomSessions) (o : Option Session) (text : List ℕ) (answer : Answer) → StandsFor b E old
    → index_of old s ≡ Some r.index → session_in r.room_sessions.sessions s ≡ o
    → Receives old.config s o text answer r.room_sessions h
    → StandsFor b (entry (Receive s text) answer ∷ E) (with_room r.index r.name h old)
receive_stands b E old s r h None text NoSession stands at is step =
    absurd (never_absent b E old s r stands at is)
receive_stands b E old s r h (Some x) text (Heard Busy) stands at is step =
    rw (same_room_sessions old r h step.1)
    (unaffected b E (entry (Receive s text) (Heard Busy)) old stands quiet (λ name.
    refl) refl (λ t. refl) (λ other. refl) (λ t. refl))
  where
    quiet : Quiet E (entry (Receive s text) (Heard Busy))
    quiet = record { opened = refl; count = refl; rooms = λ name. refl }
receive_stands b E old s r h (Some x) text (Heard (Answered short)) stands at is step =
    serve_stands b E old s (record { room = r; session = x; at = at; is = is }) h short text
    (admitted b.view_weight x.access (request_of_text text)) stands refl
    (subst (λ (config : HubConfig).
    Serves config s x (admitted config.view_weight x.access (request_of_text text)) short
    r.room_sessions h) stands.config step.1)
receive_stands b E old s r h o text answer stands at is step = absurd step

drawn_stands : (b : HubConfig) (E : Log) (old : State) (s : ℕ) (r : RoomOf old) (h : RoomSessions)
    (o : Option Session) (answer : Answer) → StandsFor b E old
    → index_of old s ≡ Some r.index → session_in r.room_sessions.sessions s ≡ o
    → Draws s o answer r.room_sessions h
    → StandsFor b (entry (Draw s) answer ∷ E) (with_room r.index r.name h old)
drawn_stands b E old s r h None NoSession stands at is step =
    absurd (never_absent b E old s r stands at is)
drawn_stands b E old s r h (Some x) (Drawn text) stands at is step =
    draw_stands b E old s (record { room = r; session = x; at = at; is = is }) h text stands step
drawn_stands b E old s r h o answer stands at is step = absurd step

-- Events in the room of a session, or of one that has none.

in_room_stands : (b : HubConfig) (E : Log) (old new : State) (index : ℕ) (event : Event)
    (answer : Answer) (Does : RoomSessions → RoomSessions
    → Type 0) (o : Option (List ℕ × RoomSessions))
    → StandsFor b (entry event NoSession ∷ E) old
    → ((r : RoomOf old) (h : RoomSessions) → r.index ≡ index → Does r.room_sessions h
    → StandsFor b (entry event answer ∷ E) (with_room r.index r.name h old))
    → slice_get old.rooms index ≡ o → InRoom index o old answer Does new
    → StandsFor b (entry event answer ∷ E) new
in_room_stands b E old new index event answer Does (Some home) quiet does at step =
    rw step.2 (does (record { index = index; name = home.0; room_sessions = home.1; there = at })
    step.0 refl step.1)
in_room_stands b E old new index event answer Does None quiet does at step =
    rw (step.0, step.1) quiet

at_home_stands : (b : HubConfig) (E : Log) (old new : State) (event : Event) (answer : Answer)
    (Does : RoomSessions → RoomSessions → Type 0) (o : Option ℕ)
    → StandsFor b (entry event NoSession ∷ E) old
    → ((r : RoomOf old) (h : RoomSessions) → o ≡ Some r.index → Does r.room_sessions h
    → StandsFor b (entry event answer ∷ E) (with_room r.index r.name h old))
    → AtIndex o old answer Does new → StandsFor b (entry event answer ∷ E) new
at_home_stands b E old new event answer Does (Some index) quiet does step =
    in_room_stands b E old new index event answer Does (slice_get old.rooms index) quiet
    (λ r h same d. does r h (ap Some (sym same)) d) refl step
at_home_stands b E old new event answer Does None quiet does step = rw (step.0, step.1) quiet

closes_in_stands : (b : HubConfig) (E : Log) (old new : State) (s : ℕ) (r : RoomOf old)
    (o : Option Session) (answer : Answer) → StandsFor b E old
    → index_of old s ≡ Some r.index → session_in r.room_sessions.sessions s ≡ o
    → ClosesIn s r.index r.name r.room_sessions o old answer new
    → StandsFor b (entry (Close s) answer ∷ E) new
closes_in_stands b E old new s r None NoSession stands at is step =
    absurd (never_absent b E old s r stands at is)
closes_in_stands b E old new s r (Some x) Closed stands at is step =
    close_stands b E old new s (record { room = r; session = x; at = at; is = is }) stands step
closes_in_stands b E old new s r o answer stands at is step = absurd step

closes_in_room_stands : (b : HubConfig) (E : Log) (old new : State) (s index : ℕ)
    (o : Option (List ℕ × RoomSessions)) (answer : Answer) → StandsFor b E old
    → StandsFor b (entry (Close s) NoSession ∷ E) old
    → slice_get old.rooms index ≡ o → index_of old s ≡ Some index
    → ClosesInRoom s index o old answer new → StandsFor b (entry (Close s) answer ∷ E) new
closes_in_room_stands b E old new s index (Some home) answer stands quiet there at step =
    closes_in_stands b E old new s
    (record { index = index; name = home.0; room_sessions = home.1; there = there })
    (session_in home.1.sessions s) answer stands at refl step
closes_in_room_stands b E old new s index None answer stands quiet there at step =
    rw (step.0, step.1) quiet

closes_stands : (b : HubConfig) (E : Log) (old new : State) (s : ℕ) (o : Option ℕ)
    (answer : Answer) → StandsFor b E old → StandsFor b (entry (Close s) NoSession ∷ E) old
    → index_of old s ≡ o → ClosesAt s o old answer new
    → StandsFor b (entry (Close s) answer ∷ E) new
closes_stands b E old new s (Some index) answer stands quiet at step =
    closes_in_room_stands b E old new s index (slice_get old.rooms index) answer stands quiet refl
    at step
closes_stands b E old new s None answer stands quiet at step = rw (step.0, step.1) quiet

-- Steps, calls and runs.

-- a step keeps a hub standing for its log
pub step_stands : (b : HubConfig) (E : Log) (old new : State) (event : Event) (answer : Answer)
    → StandsFor b E old → Step old event answer new → StandsFor b (entry event answer ∷ E) new
step_stands b E old new (Open name access) (Opened o) stands step =
    open_stands b E old new name access o stands step.1 step.0
step_stands b E old new (Open name access) (NotOpened fault) stands step =
    rw step.1 (unaffected b E (entry (Open name access) (NotOpened fault)) old stands
    (record { opened = refl; count = refl; rooms = λ name. refl }) (λ name. refl) refl (λ t.
    refl) (λ other. refl) (λ t. refl))
step_stands b E old new (Receive s text) answer stands step =
    at_home_stands b E old new (Receive s text) answer (λ g h.
    Receives old.config s (session_in g.sessions s) text answer g h) (index_of old s)
    (unaffected b E (entry (Receive s text) NoSession) old stands
    (record { opened = refl; count = refl; rooms = λ name. refl }) (λ name. refl) refl (λ t.
    refl) (λ other. refl) (λ t. refl))
    (λ r h at does.
    receive_stands b E old s r h (session_in r.room_sessions.sessions s) text answer stands at
    refl does)
    step
step_stands b E old new (Draw s) answer stands step =
    at_home_stands b E old new (Draw s) answer (λ g h.
    Draws s (session_in g.sessions s) answer g h) (index_of old s)
    (unaffected b E (entry (Draw s) NoSession) old stands
    (record { opened = refl; count = refl; rooms = λ name. refl }) (λ name. refl) refl (λ t.
    refl) (λ other. refl) (λ t. refl))
    (λ r h at does.
    drawn_stands b E old s r h (session_in r.room_sessions.sessions s) answer stands at refl
    does)
    step
step_stands b E old new (Close s) answer stands step =
    closes_stands b E old new s (index_of old s) answer stands
    (unaffected b E (entry (Close s) NoSession) old stands
    (record { opened = refl; count = refl; rooms = λ name. refl }) (λ name. refl) refl (λ t.
    refl) (λ other. refl) (λ t. refl))
    refl step
step_stands b E old new DoWill answer stands step =
    does_will_stands b E old new old.wills answer stands refl step
step_stands b E old new (Forget name) (Forgotten rev) stands step =
    forget_stands b E old new name rev stands step.0 step.1
step_stands b E old new (Forget name) (NotForgotten fault) stands step =
    rw step.1 (unaffected b E (entry (Forget name) (NotForgotten fault)) old stands
    (record { opened = refl; count = refl; rooms = λ name. refl }) (λ name. refl) refl (λ t.
    refl) (λ other. refl) (λ t. refl))
step_stands b E old new (Adopt name rev d) Adopted stands step =
    adopt_stands b E old new name rev d stands step.0 step.1
step_stands b E old new (Adopt name rev d) (NotAdopted fault) stands step =
    rw step.1 (unaffected b E (entry (Adopt name rev d) (NotAdopted fault)) old stands
    (record { opened = refl; count = refl; rooms = λ name. refl }) (λ name. refl) refl (λ t.
    refl) (λ other. refl) (λ t. refl))
step_stands b E old new (RaiseFloor rev) FloorRaised stands step =
    rw step (raise_stands b E old rev stands)
step_stands b E old new (Open name access) answer stands step = absurd step
step_stands b E old new (Forget name) answer stands step = absurd step
step_stands b E old new (Adopt name rev d) answer stands step = absurd step
step_stands b E old new (RaiseFloor rev) answer stands step = absurd step

pub call_stands : (b : HubConfig) (E : Log) (old new : State) (event : Event)
    (answer : Option Answer) → StandsFor b E old → StepIf old event answer new
    → StandsFor b (logged E event answer) new
call_stands b E old new event (Some answer) stands step =
    step_stands b E old new event answer stands step
call_stands b E old new event None stands step = rw step stands

none_followed : (E : Log) (events : List Event) → followed E events [] ≡ E
none_followed E [] = refl
none_followed E (event ∷ events) = refl

pub runs_stand : (b : HubConfig)
    (E : Log) {old new : State} {events : List Event} {answers : List Answer} → StandsFor b E old
    → Runs old events answers new → StandsFor b (followed E events answers) new
runs_stand b E stands (stops hub all) = rw (none_followed E all) stands
runs_stand b E stands (steps first mid last event rest answer others step runs) =
    runs_stand b (entry event answer ∷ E) (step_stands b E first mid event answer stands step) runs

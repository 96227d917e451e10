-- Each step keeps `IsHub`: session numbers are below the next one, and a session is in its own room
-- alone, and once.
use Rattle.std.proofs.Common.{◌≡◌, ◌≢◌, ℕ, ◌+◌, ◌<◌, ◌≤◌, ◌==◌, ◌⊎◌, inl, inr, Bool, true, false}
use Rattle.std.proofs.Common.{List, [], ◌∷◌, ◌++◌, length, Option, Some, None, Result, Ok, Err}
use Rattle.std.proofs.Common.{refl, sym, ◌∙◌, ap, subst, arith, length-append, slice_get, slice_set}
use Rattle.std.proofs.Common.{not, nat_le, nat_lt, IsSome, if◌then◌else◌}
use Rattle.std.proofs.lemmas.Bool.Decides.{eqb_tells, nat_tests}
use Rattle.std.proofs.lemmas.List.{length-set}
use Rattle.std.proofs.lemmas.Option.{slice_get_within}
use Rattle.relay_patch.specs.Change.{all_changes}
use Rattle.relay_patch.specs.declared.op.Op.{Op}
use Rattle.relay_view.specs.View.{View}
use Rattle.relay_proto.specs.Request.{request_of_text}
use Rattle.relay_access.specs.RoomName.{is_room_name}
use Rattle.relay_access.specs.declared.access.Access.{Access}
use Rattle.relay_proto.specs.declared.refusal.Refusal.{Refusal}
use Rattle.relay_proto.specs.declared.reply.Reply.TheVariants.{Done}
use Rattle.relay_proto.specs.declared.request.Request.{Request}
use Rattle.relay_proto.specs.declared.request.Request.TheVariants.{Edit, Will, Watch, Resume}
use Rattle.relay_proto.specs.declared.request.Request.TheVariants.{Unwatch}
use Rattle.relay_room.specs.CatchUp.{caught_up_within}
use Rattle.relay_room.specs.Edit.{edited}
use Rattle.relay_room.specs.Room.{begun, revision}
use Rattle.relay_room.specs.declared.catch_up.CatchUp.TheVariants.{Snapshot}
use Rattle.relay_room.specs.declared.fault.EditFault.{EditFault}
use Rattle.relay_tree.specs.Document.{Document, null}
use Rattle.relay_limits.specs.declared.TheConstants.{MAX_COUNT}
use Rattle.relay_hub.specs.Admitted.{admitted}
use Rattle.relay_hub.specs.Refusal.{refused, future_refusal}
use Rattle.relay_hub.specs.Session.{Session, replied, newcomer, leaves_will, watches, unwatches}
use Rattle.relay_hub.specs.Session.{resumes, drawn}
use Rattle.relay_hub.specs.State.{RoomSessions, room_sessions, State, EachOnce, Home, RoomOf, IsHub}
use Rattle.relay_hub.specs.State.{HaveRooms, index_of, index_named, vacant_in, is_crowded}
use Rattle.relay_hub.specs.State.{session_in}
use Rattle.relay_hub.specs.Step.{OnlyAt, EditServed, WillServed, ResumeServed, Serves, Receives}
use Rattle.relay_hub.specs.Step.{Draws, with_room, with_wills, InRoom, AtIndex, open_fault, Founds}
use Rattle.relay_hub.specs.Step.{Enters, Opens, left_of, Closes, ClosesIn, ClosesInRoom, ClosesAt}
use Rattle.relay_hub.specs.Step.{DoesWill, BeginsAnew, with_floor, raised_floor, Step}
use Rattle.relay_hub.specs.declared.config.HubConfig.{HubConfig}
use Rattle.relay_hub.specs.declared.event.Answer.{Answer}
use Rattle.relay_hub.specs.declared.event.Answer.TheVariants.{Opened, NotOpened, Heard, Drawn}
use Rattle.relay_hub.specs.declared.event.Answer.TheVariants.{Closed, WillDone, NoWill, Forgotten}
use Rattle.relay_hub.specs.declared.event.Answer.TheVariants.{NotForgotten, Adopted}
use Rattle.relay_hub.specs.declared.event.Answer.TheVariants.{NotAdopted, FloorRaised, NoSession}
use Rattle.relay_hub.specs.declared.event.Event.{Event}
use Rattle.relay_hub.specs.declared.event.Event.TheVariants.{Open, Receive, Draw, Close, DoWill}
use Rattle.relay_hub.specs.declared.event.Event.TheVariants.{Forget, Adopt, RaiseFloor}
use Rattle.relay_hub.specs.declared.event.Opening.{Opening}
use Rattle.relay_hub.specs.declared.fault.OpenFault.TheVariants.{RoomName, RoomsFull, SessionsFull}
use Rattle.relay_hub.specs.declared.fault.OpenFault.TheVariants.{Exhausted}
use Rattle.relay_hub.specs.declared.will.Will.{Will as WillLeft}
use Rattle.relay_hub.specs.declared.event.Heard.TheVariants.{Answered, Busy}
use Rattle.relay_hub.proofs.Cases.{by_number, by_finding}
use Rattle.relay_hub.proofs.Lists.{slice_set_cases, append_cases, slice_get-set}
use Rattle.relay_hub.proofs.Lists.{slice_get-set_other, slice_get-earlier, slice_get-last}
use Rattle.relay_hub.proofs.Floors.{floor_count}
use Rattle.relay_hub.proofs.Forgetting.{absent, forgets_idle, adopts_idle}
use Rattle.relay_hub.proofs.Rooms.{Vacant, vacant}
use Rattle.relay_hub.proofs.Notified.{each_notified, none_notified, some_notified, once_same}
use Rattle.relay_hub.proofs.Wills.{have_more, have_set, have_left, few_left}

-- each session is in no room but its own
abbrev StandAlone : State → Type 0
StandAlone hub =
    (index : ℕ) (name : List ℕ) (g : RoomSessions) → slice_get hub.rooms index ≡ Some (name, g)
    → (t : ℕ) (x : Session) → session_in g.sessions t ≡ Some x → index_of hub t ≡ Some index

-- one room differs: its sessions have it as their room, and the others keep theirs
set_alone : (old new : State) (index : ℕ) (name : List ℕ) (g : RoomSessions) → IsHub old
    → new.rooms ≡ slice_set old.rooms index (name, g)
    → ((t p : ℕ) → index_of old t ≡ Some p → p ≢ index → index_of new t ≡ Some p)
    → ((t : ℕ) (x : Session) → session_in g.sessions t ≡ Some x → index_of new t ≡ Some index)
    → StandAlone new
set_alone old new index name g h rooms others here p known h_g at t x is =
    elim (slice_set_cases old.rooms index p (name, g) (
      known,
      h_g,
    ) (ap (λ rooms. slice_get rooms p) (sym rooms) ∙ at)) [
      | inl k ↦ here t x (ap (λ (r : List ℕ × RoomSessions). session_in r.1.sessions t) (sym k.1)
          ∙ is) ∙ ap Some (sym k.0)
      | inr k ↦ others t p (h.members p known h_g k.1 t x is) k.0
    ]

-- each session is in its room only once
abbrev StandOnce : State → Type 0
StandOnce hub =
    (index : ℕ) (name : List ℕ) (g : RoomSessions) → slice_get hub.rooms index ≡ Some (name, g)
    → EachOnce g.sessions

-- one room differs, and each of its sessions is there only once
set_once : (old new : State) (index : ℕ) (name : List ℕ) (g : RoomSessions) → IsHub old
    → new.rooms ≡ slice_set old.rooms index (name, g) → EachOnce g.sessions → StandOnce new
set_once old new index name g h rooms once p known k at =
    elim (slice_set_cases old.rooms index p (name, g) (
      known,
      k,
    ) (ap (λ rooms. slice_get rooms p) (sym rooms) ∙ at)) [
      | inl c ↦ rw (ap (λ (r : List ℕ × RoomSessions). r.1) c.1) once
      | inr c ↦ h.once p known k c.1
    ]

-- one room differs, and each session whose room it still is remains in it
set_homes : (old new : State) (index : ℕ) (name : List ℕ) (was g : RoomSessions)
    → slice_get old.rooms index ≡ Some (name, was) → new.rooms ≡ slice_set old.rooms index (name, g)
    → (t : ℕ) (home : Home old t) → index_of new t ≡ Some home.room.index
    → (home.room.index ≡ index → (y : Session) × (session_in g.sessions t ≡ Some y)) → Home new t
set_homes old new index name was g at rooms t home still stays =
    let r = home.room in
    elim (eqb_tells r.index index) [
      | inl same ↦
          let y = stays same.1 in
          let there : slice_get new.rooms r.index ≡ Some (name, g) =
          rw (rooms, same.1) (slice_get-set old.rooms index (name, was) (name, g) at) in
          record {
            room = record { index = r.index; name = name; room_sessions = g; there = there };
            session = y.0;
            at = still;
            is = y.1;
          }
      | inr other ↦
          let there : slice_get new.rooms r.index ≡ Some (r.name, r.room_sessions) =
          rw (rooms, slice_get-set_other old.rooms index r.index (name, g) other.1) r.there
          in
          record {
            room = record
                { index = r.index; name = r.name; room_sessions = r.room_sessions; there = there };
            session = home.session;
            at = still;
            is = home.is;
          }
    ]

-- the room at the index of a session's room
same_home : (hub : State) (t index : ℕ) (name : List ℕ) (g : RoomSessions) (home : Home hub t)
    → slice_get hub.rooms index ≡ Some (name, g) → home.room.index ≡ index
    → session_in g.sessions t ≡ Some home.session
same_home hub t index name g home at same =
    let both : ◌≡◌ {A = Option (List ℕ × RoomSessions)} (Some (
      home.room.name,
      home.room.room_sessions,
    )) (Some (name, g)) =
    sym home.room.there ∙ (ap (λ p. slice_get hub.rooms p) same ∙ at) in
    let one : ◌≡◌ {A = List ℕ × RoomSessions} (home.room.name, home.room.room_sessions) (name, g) =
    cc in
    subst (λ (k : RoomSessions).
    session_in k.sessions t ≡ Some home.session) (ap (λ (r : List ℕ × RoomSessions).
    r.1) one) home.is

-- no session enters the room or leaves it, and each is still there only once
record Keeps (old new : RoomSessions) : Type 0 where
  none : (t : ℕ) → session_in old.sessions t ≡ None → session_in new.sessions t ≡ None
  some : (t : ℕ) (x : Session) → session_in old.sessions t ≡ Some x
      → IsSome (session_in new.sessions t)
  once : EachOnce old.sessions → EachOnce new.sessions

keeps_same : (old new : RoomSessions) → new ≡ old → Keeps old new
keeps_same old new same = record {
  none = λ t h. rw same h;
  some = λ t x h. rw (same, h) refl;
  once = λ h. rw same h;
}

some_one : {X : Type 0} (o : Option X) → IsSome o → (x : X) × (o ≡ Some x)
some_one (Some x) h = (x, refl)
some_one None h = absurd (cc h)

-- a session of the new room was in the old one, so it is its room
stays_home : (hub : State) (index : ℕ) (name : List ℕ) (old new : RoomSessions) → IsHub hub
    → slice_get hub.rooms index ≡ Some (name, old) → Keeps old new
    → (t : ℕ) (x : Session) → session_in new.sessions t ≡ Some x → index_of hub t ≡ Some index
stays_home hub index name old new h at keeps t x is =
    by_finding (index_of hub t ≡ Some index) (session_in old.sessions t)
    (λ gone. absurd (cc (keeps.none t gone, is)))
    (λ y there. h.members index name old at t y there)

in_room_is_hub : (old new : State) (index : ℕ) (answer : Answer) (Does : RoomSessions
    → RoomSessions → Type 0) (o : Option (List ℕ × RoomSessions)) → IsHub old
    → ((g h : RoomSessions) → Does g h → Keeps g h) → slice_get old.rooms index ≡ o
    → InRoom index o old answer Does new → IsHub new
in_room_is_hub old new index answer Does None h keeps at step = rw step.1 h
in_room_is_hub old new index answer Does (Some there) h keeps at step =
    let next = with_room index there.0 step.0 old in
    let kept = keeps there.1 step.0 step.1 in
    subst IsHub (sym step.2) (record {
      config = h.config;
      floor = h.floor;
      below = h.below;
      homes = λ t p t_at.
          let home = h.homes t p t_at in
          set_homes old next index there.0 there.1 step.0 at refl t home home.at
          (λ same.
          some_one (session_in step.0.sessions t)
          (kept.some t home.session (same_home old t index there.0 there.1 home at same)));
      members = set_alone old next index there.0 step.0 h refl (λ t p e other.
          e) (stays_home old index there.0 there.1 step.0 h at kept);
      once =
          set_once old next index there.0 step.0 h refl
          (kept.once (h.once index there.0 there.1 at));
      few = h.few;
      wills = have_set old.rooms index (there.0, step.0) old.wills h.wills;
    })

at_home_is_hub : (old new : State) (answer : Answer) (Does : RoomSessions → RoomSessions
    → Type 0) (index : Option ℕ) → IsHub old
    → ((g h : RoomSessions) → Does g h → Keeps g h) → AtIndex index old answer Does new → IsHub new
at_home_is_hub old new answer Does None h keeps step = rw step.1 h
at_home_is_hub old new answer Does (Some index) h keeps step =
    in_room_is_hub old new index answer Does (slice_get old.rooms index) h keeps refl step

-- what is done in a room adds and removes no session

keeps_only : (s : ℕ) (x y : Session) (old new : RoomSessions) → session_in old.sessions s ≡ Some x
    → OnlyAt s (Some y) old.sessions new.sessions → Keeps old new
keeps_only s x y old new e only = record {
  none =
      λ t none. rw (only.found t) (by_number (λ t b. session_in old.sessions t ≡ None
      → (if b then Some y else session_in old.sessions t) ≡ None) s t (λ absent.
      absurd (cc (e, absent))) (λ other is. is) none);
  some =
      λ t z is. rw (only.found t) (by_number (λ t b. session_in old.sessions t ≡ Some z
      → IsSome (if b then Some y else session_in old.sessions t)) s t (λ there.
      refl) (λ other there. rw there refl) is);
  once = only.once;
}

edit_keeps : (config : HubConfig) (s short id : ℕ) (x : Session) (patch : List Op)
    (o : Result Document EditFault) (old new : RoomSessions) → session_in old.sessions s ≡ Some x
    → EditServed config s x id patch o short old new → Keeps old new
edit_keeps config s short id x patch (Err fault) old new e h =
    keeps_only s x (replied h.1 x) old new e h.3.1
edit_keeps config s short id x patch (Ok d) old new e h =
    let before = old.room.document in
    let changes = all_changes before patch in
    let room = h.0 in
    let mid = room_sessions room h.2 in
    let answered = keeps_only s x (replied (Done id (revision room)) x) old mid e h.3 in
    let notified =
    each_notified before changes room config.waiting_weight config.telling_weight h.2 new.sessions
    short h.4 in
    record {
      none =
          λ t none.
          none_notified before room (session_in h.2 t) (session_in new.sessions t) (notified t)
          (answered.none t none);
      some = λ t z is.
          let there = some_one (session_in h.2 t) (answered.some t z is) in
          some_notified before room (session_in h.2 t) (session_in new.sessions t) there.0
          (notified t) there.1;
      once = λ once. once_same h.2 new.sessions h.4.same (answered.once once);
    }

resume_keeps : (present past : Bool) (id rev s : ℕ) (pointers : View) (x : Session)
    (old new : RoomSessions) → session_in old.sessions s ≡ Some x
    → ResumeServed present past id rev pointers s x old new → Keeps old new
resume_keeps false past id rev s pointers x old new e h =
    keeps_only s x (resumes (revision old.room) id pointers Snapshot x) old new e h.1
resume_keeps true false id rev s pointers x old new e h =
    keeps_only s x (replied (refused (future_refusal id)) x) old new e h.1
resume_keeps true true id rev s pointers x old new e h =
    keeps_only s x (resumes (revision old.room) id pointers
    (caught_up_within x.budget old.room rev pointers) x) old new e h.2.1

serve_keeps : (config : HubConfig) (s short : ℕ) (x : Session) (request : Result Request Refusal)
    (old new : RoomSessions) → session_in old.sessions s ≡ Some x
    → Serves config s x request short old new → Keeps old new
serve_keeps config s short x (Err r) old new e h =
    keeps_only s x (replied (refused r) x) old new e h.1.1
serve_keeps config s short x (Ok (Watch id pointers)) old new e h =
    keeps_only s x (watches id pointers x) old new e h.1.1
serve_keeps config s short x (Ok (Will id patch)) old new e h =
    keeps_only s x (leaves_will id patch x) old new e h.1.1
serve_keeps config s short x (Ok (Unwatch id)) old new e h =
    keeps_only s x (unwatches id x) old new e h.1.1
serve_keeps config s short x (Ok (Resume id n rev pointers)) old new e h =
    resume_keeps (n == config.epoch) (nat_le rev (revision old.room)) id rev s pointers x old new e
    h.1
serve_keeps config s short x (Ok (Edit id base patch)) old new e h =
    edit_keeps config s short id x patch (edited old.room base patch) old new e h

receive_keeps : (config : HubConfig) (s : ℕ) (o : Option Session) (text : List ℕ) (answer : Answer)
    (old new : RoomSessions) → session_in old.sessions s ≡ o
    → Receives config s o text answer old new → Keeps old new
receive_keeps config s None text NoSession old new e h = keeps_same old new h
receive_keeps config s (Some x) text (Heard Busy) old new e h = keeps_same old new h.1
receive_keeps config s (Some x) text (Heard (Answered short)) old new e h =
    serve_keeps config s short x
    (admitted config.view_weight x.access (request_of_text text)) old new
    e h.1
receive_keeps config s o text answer old new e h = absurd h

draw_keeps : (s : ℕ) (o : Option Session) (answer : Answer) (old new : RoomSessions)
    → session_in old.sessions s ≡ o → Draws s o answer old new → Keeps old new
draw_keeps s None NoSession old new e h = keeps_same old new h
draw_keeps s (Some x) (Drawn text) old new e h = keeps_only s x (drawn x) old new e h.1.1
draw_keeps s o answer old new e h = absurd h

-- a new session

-- a session that already had a room is not the new one
not_new : (old : State) (n t p : ℕ) → IsHub old → n ≡ old.next → index_of old t ≡ Some p → n ≢ t
not_new old n t p h number at same =
    let none : index_of old t ≡ None =
    h.below t (omega (arith, number, same)) in absurd (cc (none, at))

opens_stays : (old new : State) (n index t p : ℕ) → IsHub old → n ≡ old.next
    → ((t : ℕ) → index_of new t ≡ (if n == t then Some index else index_of old t))
    → index_of old t ≡ Some p → index_of new t ≡ Some p
opens_stays old new n index t p h number home at =
    let test : (n == t) ≡ false = grind (arith, nat_tests, not_new old n t p h number at) in
    rw (home t, test) at

opens_below : (old new : State) (name : List ℕ) (access : Access) (o : Opening) → IsHub old
    → Opens old name access o new → (t : ℕ) → new.next ≤ t → index_of new t ≡ None
opens_below old new name access o h step t late =
    let test : (o.session == t) ≡ false = grind (arith, nat_tests, late, step.next) in
    rw (step.home t, test) (h.below t (omega (arith, late, step.next, step.number)))

joins_alone : (old new : State) (name : List ℕ) (access : Access) (o : Opening) (index i : ℕ)
    → IsHub old → o.session ≡ old.next
    → ((t : ℕ) → index_of new t ≡ (if o.session == t then Some index else index_of old t))
    → Enters o name access (Some i) old index new → StandAlone new
joins_alone old new name access o index i h number home step =
    let g = step.2 in
    set_alone old new i step.1 step.3 h step.5 (λ t p at other.
    opens_stays old new o.session index t p h number home at)
    (λ t x is. rw (home t) (by_number
    (λ t b. (if b then Some (newcomer old.config access (revision g.room) o.session)
    else session_in g.sessions t) ≡ Some x
    → (if b then Some index else index_of old t) ≡ Some i) o.session t
    (λ here. ap Some step.0) (λ other there.
    h.members i step.1 g step.4 t x there) (sym (step.7.1.found t) ∙ is)))

-- the room that an opening makes
abbrev founded : State → List ℕ → Access → ℕ → ℕ → List ℕ × RoomSessions
founded old name access floor n = (
  name,
  room_sessions (begun null floor old.config.history) (newcomer old.config access floor n
      ∷ []),
)

-- the newcomer alone stands in it
founded_alone : (old new : State) (access : Access) (floor n index t : ℕ) (x : Session)
    → ((t : ℕ) → index_of new t ≡ (if n == t then Some index else index_of old t))
    → session_in (newcomer old.config access floor n ∷ []) t ≡ Some x → index_of new t ≡ Some index
founded_alone old new access floor n index t x home is =
    let first = newcomer old.config access floor n in
    rw (home t) (by_number (λ t b. (if b then Some first else None) ≡ Some x
    → (if b then Some index else index_of old t) ≡ Some index) n t
    (λ here. refl) (λ other none. absurd (cc none)) is)

-- nobody is at home in a room that is vacant
not_vacant : (old : State) (i t : ℕ) (v : Vacant old.rooms i) (home : Home old t)
    → home.room.index ≡ i → ⊥
not_vacant old i t v home same =
    let is = same_home old t i v.name v.room_sessions home v.there same in
    let none : session_in v.room_sessions.sessions t ≡ None = rw v.empty refl in
    absurd (cc (is, none))

founds_alone : (old new : State) (name : List ℕ) (access : Access) (floor n index : ℕ)
    (o : Option ℕ) → IsHub old → n ≡ old.next
    → ((t : ℕ) → index_of new t ≡ (if n == t then Some index else index_of old t))
    → Founds o (founded old name access floor n) old.rooms index new.rooms → StandAlone new
founds_alone old new name access floor n index (Some i) h number home step p known g at t x is =
    set_alone old new i name (founded old name access floor n).1 h step.1 (λ t p at other.
    opens_stays old new n index t p h number home at)
    (λ t x is. founded_alone old new access floor n index t x home is
    ∙ ap Some step.0) p known g at t x is
founds_alone old new name access floor n index None h number home step p known g at t x is =
    let room = founded old name access floor n in
    elim (append_cases old.rooms p room (
      known,
      g,
    ) (ap (λ rooms. slice_get rooms p) (sym step.1) ∙ at)) [
      | inl k ↦
          let there : session_in room.1.sessions t ≡ Some x =
          ap (λ (r : List ℕ × RoomSessions). session_in r.1.sessions t) (sym k.1) ∙ is in
          founded_alone old new access floor n index t x home there ∙ ap Some (step.0 ∙ sym k.0)
      | inr k ↦ opens_stays old new n index t p h number home (h.members p known g k.1 t x is)
    ]

enters_alone : (old new : State) (name : List ℕ) (access : Access) (o : Opening) (index : ℕ)
    (at : Option ℕ) → IsHub old → o.session ≡ old.next
    → ((t : ℕ) → index_of new t ≡ (if o.session == t then Some index else index_of old t))
    → Enters o name access at old index new → StandAlone new
enters_alone old new name access o index (Some i) h number home step =
    joins_alone old new name access o index i h number home step
enters_alone old new name access o index None h number home step =
    founds_alone old new name access new.floor o.session index (vacant_in old) h number home step.1

founds_once : (old new : State) (name : List ℕ) (access : Access) (floor n index : ℕ)
    (o : Option ℕ) → IsHub old
    → Founds o (founded old name access floor n) old.rooms index new.rooms → StandOnce new
founds_once old new name access floor n index (Some i) h step =
    set_once old new i name (founded old name access floor n).1 h step.1 (refl, tt)
founds_once old new name access floor n index None h step = λ p known g at.
    elim (append_cases old.rooms p (founded old name access floor n) (
      known,
      g,
    ) (ap (λ rooms. slice_get rooms p) (sym step.1) ∙ at)) [
      | inl k ↦ rw (ap (λ (r : List ℕ × RoomSessions). r.1) k.1) (refl, tt)
      | inr k ↦ h.once p known g k.1
    ]

enters_once : (old new : State) (name : List ℕ) (access : Access) (o : Opening) (index : ℕ)
    (at : Option ℕ) → IsHub old → Enters o name access at old index new → StandOnce new
enters_once old new name access o index (Some i) h step =
    set_once old new i step.1 step.3 h step.5 (step.7.1.once (h.once i step.1 step.2 step.4))
enters_once old new name access o index None h step =
    founds_once old new name access new.floor o.session index (vacant_in old) h step.1

-- a session that has a room after an opening is the new one, or had it before
home_cases : (old new : State) (n index t p : ℕ)
    → ((t : ℕ) → index_of new t ≡ (if n == t then Some index else index_of old t))
    → index_of new t ≡ Some p
    → ((n ≡ t) × (p ≡ index)) ⊎ ((n ≢ t) × (index_of old t ≡ Some p))
home_cases old new n index t p home at =
    let found : (if n == t then Some index else index_of old t) ≡ Some p = sym (home t) ∙ at in
    elim (eqb_tells n t) [
      | inl same ↦ let here : Some index ≡ Some p = rw same.0 at found in inl (same.1, cc)
      | inr other ↦ let there : index_of old t ≡ Some p = rw other.0 at found in
          inr (other.1, there)
    ]

-- the home of the new session, if the opening made its room
newcomer_home : (old new : State) (name : List ℕ) (access : Access) (floor n t p : ℕ) → n ≡ t
    → index_of new t ≡ Some p → slice_get new.rooms p ≡ Some (founded old name access floor n)
    → Home new t
newcomer_home old new name access floor n t p same at there =
    let test : (n == t) ≡ true = grind (arith, nat_tests, same) in
    record {
      room =
          record {
            index = p;
            name = name;
            room_sessions = (founded old name access floor n).1;
            there = there;
          };
      session = newcomer old.config access floor n;
      at = at;
      is = rw test refl;
    }

-- that of a session that was open, in a room that is unchanged
unchanged_home : (old new : State) (t : ℕ) (was : Home old t) → index_of new t ≡ Some was.room.index
    → slice_get new.rooms was.room.index ≡ Some (was.room.name, was.room.room_sessions) → Home new t
unchanged_home old new t was at there =
    let r = was.room in
    record {
      room =
          record { index = r.index; name = r.name; room_sessions = r.room_sessions; there = there };
      session = was.session;
      at = at;
      is = was.is;
    }

founds_homes : (old new : State) (name : List ℕ) (access : Access) (floor n index : ℕ)
    (o : Option ℕ) → vacant_in old ≡ o → IsHub old → n ≡ old.next
    → ((t : ℕ) → index_of new t ≡ (if n == t then Some index else index_of old t))
    → Founds o (founded old name access floor n) old.rooms index new.rooms
    → (t p : ℕ) → index_of new t ≡ Some p → Home new t
founds_homes old new name access floor n index (Some i) is_vacant h number home step t p at =
    let room = founded old name access floor n in
    let v = vacant old.config.rooms old.wills old.rooms i is_vacant in
    elim (home_cases old new n index t p home at) [
      | inl mine ↦
          let here : p ≡ i = mine.1 ∙ step.0 in
          newcomer_home old new name access floor n t p mine.0 at (rw (
            here,
            step.1,
          ) (slice_get-set old.rooms i (v.name, v.room_sessions) room v.there))
      | inr other ↦
          let was = h.homes t p other.1 in
          let r = was.room in
          unchanged_home old new t was (opens_stays old new n index t r.index h number home was.at)
          (rw (step.1, slice_get-set_other old.rooms i r.index room (not_vacant old i t v was))
          r.there)
    ]
founds_homes old new name access floor n index None is_vacant h number home step t p at =
    let room = founded old name access floor n in
    elim (home_cases old new n index t p home at) [
      | inl mine ↦
          let here : p ≡ length old.rooms = mine.1 ∙ step.0 in
          newcomer_home old new name access floor n t p mine.0 at (rw (
            here,
            step.1,
          ) (slice_get-last old.rooms room))
      | inr other ↦
          let was = h.homes t p other.1 in
          let r = was.room in
          unchanged_home old new t was (opens_stays old new n index t r.index h number home was.at)
          (rw step.1 (slice_get-earlier old.rooms room (r.name, r.room_sessions) r.index r.there))
    ]

enters_homes : (old new : State) (name : List ℕ) (access : Access) (o : Opening) (index : ℕ)
    (at : Option ℕ) → IsHub old → o.session ≡ old.next
    → ((t : ℕ) → index_of new t ≡ (if o.session == t then Some index else index_of old t))
    → Enters o name access at old index new
    → (t p : ℕ) → index_of new t ≡ Some p → Home new t
enters_homes old new name access o index (Some i) h number home step t p at =
    let g = step.2 in
    let k = step.3 in
    let x = newcomer old.config access (revision g.room) o.session in
    elim (home_cases old new o.session index t p home at) [
      | inl mine ↦
          let here : p ≡ i = mine.1 ∙ step.0 in
          let test : (o.session == t) ≡ true = grind (arith, nat_tests, mine.0) in
          record {
            room =
                record {
                  index = p;
                  name = step.1;
                  room_sessions = k;
                  there = rw (here, step.5)
                      (slice_get-set old.rooms i (step.1, g) (step.1, k) step.4);
                };
            session = x;
            at = at;
            is = rw (step.7.1.found t, test) refl;
          }
      | inr other ↦
          let was = h.homes t p other.1 in
          let still : index_of new t ≡ Some was.room.index =
          opens_stays old new o.session index t was.room.index h number home was.at in
          set_homes old new i step.1 g k step.4 step.5 t was still
          (λ same.
          let test : (o.session == t) ≡ false = grind (arith, nat_tests, other.0) in
          (was.session, rw (step.7.1.found t, test) (same_home old t i step.1 g was step.4 same)))
    ]
enters_homes old new name access o index None h number home step t p at =
    founds_homes old new name access new.floor o.session index (vacant_in old) refl h number home
    step.1 t p at

-- room for another session is left
index_left : (hub : State) (name : List ℕ) → open_fault hub name ≡ None
    → length hub.homes + length hub.wills < hub.config.sessions
index_left hub name h =
    let test : nat_le hub.config.sessions (length hub.homes + length hub.wills) ≡ false =
    third (not (is_room_name name)) (is_crowded (index_named name hub.rooms) hub)
    (nat_le hub.config.sessions (length hub.homes + length hub.wills))
    (nat_lt MAX_COUNT hub.next) h in
    grind (arith, nat_tests, test)
  where
    third : (x y z w : Bool)
        → (if x then Some RoomName else if y then Some RoomsFull else if z then Some SessionsFull
        else if w then Some Exhausted else None) ≡ None → z ≡ false
    third true y z w h = absurd (cc h)
    third false true z w h = absurd (cc h)
    third false false true w h = absurd (cc h)
    third false false false w h = refl

enters_wills : (old new : State) (name : List ℕ) (access : Access) (o : Opening) (index : ℕ)
    (at : Option ℕ) → HaveRooms old.rooms old.wills
    → Enters o name access at old index new → HaveRooms new.rooms old.wills
enters_wills old new name access o index (Some i) have step =
    rw step.5 (have_set old.rooms i (step.1, step.3) old.wills have)
enters_wills old new name access o index None have step = go (vacant_in old) step.1
  where
    go : (v : Option ℕ)
        → Founds v (founded old name access new.floor o.session) old.rooms index new.rooms
        → HaveRooms new.rooms old.wills
    go (Some i) founds =
        rw founds.1 (have_set old.rooms i (founded old name access new.floor o.session) old.wills
        have)
    go None founds =
        let room = founded old name access new.floor o.session in
        rw founds.1 (have_more old.rooms (old.rooms ++ room ∷ []) old.wills (omega (
          arith,
          length-append old.rooms (room ∷ []),
        )) have)

open_is_hub : (old new : State) (name : List ℕ) (access : Access) (o : Opening) → IsHub old
    → open_fault old name ≡ None → Opens old name access o new → IsHub new
open_is_hub old new name access o h may step = record {
  config = rw step.config h.config;
  floor = rw step.floor (floor_count old (index_named name old.rooms) h.floor);
  below = opens_below old new name access o h step;
  homes =
      enters_homes old new name access o step.index (index_named name old.rooms) h step.number
      step.home step.enters;
  members =
      enters_alone old new name access o step.index (index_named name old.rooms) h step.number
      step.home step.enters;
  once = enters_once old new name access o step.index (index_named name old.rooms) h step.enters;
  few = let left = index_left old name may in
      rw (step.config, step.wills) (omega (arith, step.count, left));
  wills =
      rw step.wills (enters_wills old new name access o step.index (index_named name old.rooms)
      h.wills step.enters);
}

-- a session that is closed

otherwise : {X : Type 0} (b : Bool) (u v w : X) → b ≡ false → w ≡ (if b then u else v) → w ≡ v
otherwise true u v w other is = absurd (cc other)
otherwise false u v w other is = is

closes_is_hub : (old new : State) (s : ℕ) (r : RoomOf old) (x : Session) → IsHub old
    → index_of old s ≡ Some r.index → Closes s r.index r.name r.room_sessions x old new
    → IsHub new
closes_is_hub old new s r x h home step = record {
  config = rw step.config h.config;
  floor = rw step.floor h.floor;
  homes = λ t p t_at.
      let found : (if s == t then None else index_of old t) ≡ Some p = sym (step.home t) ∙ t_at in
      elim (eqb_tells s t) [
        | inl same ↦ let none : None ≡ Some p = rw same.0 at found in absurd (cc none)
        | inr other ↦
            let before : index_of old t ≡ Some p = rw other.0 at found in
            let was = h.homes t p before in
            let still : index_of new t ≡ Some was.room.index =
            otherwise (s == t) None (index_of old t) (index_of new t) other.0 (step.home t)
            ∙ was.at in
            set_homes old new r.index r.name r.room_sessions step.left r.there step.rooms t was
            still
            (λ same. (
              was.session,
              otherwise (s == t) None (session_in r.room_sessions.sessions t)
                  (session_in step.left.sessions t) other.0 (step.leaves.1.found t)
                  ∙ same_home old t r.index r.name r.room_sessions was r.there same,
            ))
      ];
  once =
      set_once old new r.index r.name step.left h step.rooms
      (step.leaves.1.once (h.once r.index r.name r.room_sessions r.there));
  below =
      λ t late. rw (step.home t) (by_number (λ t b. index_of old t ≡ None
      → (if b then None else index_of old t) ≡ None) s t (λ e. refl) (λ other e. e)
      (h.below t (omega (arith, late, step.next))));
  members = set_alone old new r.index r.name step.left h step.rooms
      (λ t p is other. rw (step.home t) (by_number (λ t b. index_of old t ≡ Some p
      → (if b then None else index_of old t) ≡ Some p) s t
      (λ e. let same : Some p ≡ Some r.index = sym e ∙ home in
      absurd (other cc)) (λ apart e. e) is))
      (λ t y is. rw (step.home t) (by_number (λ t b.
      (if b then None else session_in r.room_sessions.sessions t) ≡ Some y
      → (if b then None else index_of old t) ≡ Some r.index) s t
      (λ e. absurd (cc e)) (λ apart e.
      h.members r.index r.name r.room_sessions r.there t y e) (sym (step.leaves.1.found t)
      ∙ is)));
  few =
      rw (step.config, step.wills) (omega (
        arith,
        h.few,
        step.count,
        few_left s x.will_number r.index x.will,
        length-append old.wills (left_of s x.will_number r.index x.will),
      ));
  wills =
      let within = slice_get_within old.rooms r.index (r.name, r.room_sessions) r.there in
      rw (step.rooms, step.wills)
      (have_left (slice_set old.rooms r.index (r.name, step.left)) old.wills s x.will_number
      r.index x.will (omega (arith, within, length-set old.rooms r.index (r.name, step.left)))
      (have_set old.rooms r.index (r.name, step.left) old.wills h.wills));
}

close_in_is_hub : (old new : State) (s : ℕ) (r : RoomOf old) (o : Option Session) (answer : Answer)
    → IsHub old → index_of old s ≡ Some r.index
    → ClosesIn s r.index r.name r.room_sessions o old answer new → IsHub new
close_in_is_hub old new s r None NoSession h home step = rw step h
close_in_is_hub old new s r (Some x) Closed h home step =
    closes_is_hub old new s r x h home step
close_in_is_hub old new s r o answer h home step = absurd step

close_in_room_is_hub : (old new : State) (s index : ℕ) (o : Option (List ℕ
    × RoomSessions)) (answer : Answer) → IsHub old → index_of old s ≡ Some index
    → slice_get old.rooms index ≡ o → ClosesInRoom s index o old answer new → IsHub new
close_in_room_is_hub old new s index None answer h home at step = rw step.1 h
close_in_room_is_hub old new s index (Some there) answer h home at step =
    let r : RoomOf old =
    record { index = index; name = there.0; room_sessions = there.1; there = at } in
    close_in_is_hub old new s r (session_in there.1.sessions s) answer h home step

close_is_hub : (old new : State) (s : ℕ) (o : Option ℕ) (answer : Answer) → IsHub old
    → index_of old s ≡ o → ClosesAt s o old answer new → IsHub new
close_is_hub old new s None answer h home step = rw step.1 h
close_is_hub old new s (Some index) answer h home step =
    close_in_room_is_hub old new s index (slice_get old.rooms index) answer h home refl step

-- a will that is done

will_keeps : (config : HubConfig) (patch : List Op) (o : Result Document EditFault) (short : ℕ)
    (old new : RoomSessions) → WillServed config patch o short old new → Keeps old new
will_keeps config patch (Err fault) short old new h = keeps_same old new h.1
will_keeps config patch (Ok d) short old new h =
    let before = old.room.document in
    let changes = all_changes before patch in
    let room = h.0 in
    let notified =
    each_notified before changes room config.waiting_weight config.telling_weight old.sessions
    new.sessions short h.2 in
    record {
      none =
          λ t none.
          none_notified before room (session_in old.sessions t) (session_in new.sessions t)
          (notified t) none;
      some =
          λ t x is.
          some_notified before room (session_in old.sessions t) (session_in new.sessions t) x
          (notified t) is;
      once = once_same old.sessions new.sessions h.2.same;
    }

-- what is done in a room leaves the wills
in_room_wills : (old done : State) (index : ℕ) (answer : Answer) (Does : RoomSessions
    → RoomSessions → Type 0) (o : Option (List ℕ × RoomSessions))
    → InRoom index o old answer Does done
    → (done.wills ≡ old.wills) × (done.homes ≡ old.homes) × (done.config ≡ old.config)
in_room_wills old done index answer Does (Some there) step = rw step.2 (refl, refl, refl)
in_room_wills old done index answer Does None step = rw step.1 (refl, refl, refl)

does_will_is_hub : (old new : State) (wills : List WillLeft) (answer : Answer) → IsHub old
    → old.wills ≡ wills → DoesWill wills old answer new → IsHub new
does_will_is_hub old new [] NoWill h is step = rw step h
does_will_is_hub old new (w ∷ wills) (WillDone short) h is step =
    let done = step.0 in
    let k = in_room_is_hub old done w.room_index (WillDone short) (λ g k.
    WillServed old.config w.patch (edited g.room None w.patch) short g k)
    (slice_get old.rooms w.room_index) h
    (λ g k served. will_keeps old.config w.patch (edited g.room None w.patch) short g k served) refl
    step.2 in
    let same = in_room_wills old done w.room_index (WillDone short) (λ g k.
    WillServed old.config w.patch (edited g.room None w.patch) short g k)
    (slice_get old.rooms w.room_index) step.2 in
    let all : done.wills ≡ w ∷ wills = same.0 ∙ is in
    let few : length done.homes + length (w ∷ wills) ≤ done.config.sessions = rw all at k.few in
    let have : HaveRooms done.rooms (w ∷ wills) = rw all at k.wills in
    rw step.1 (record {
      config = k.config;
      floor = k.floor;
      below = k.below;
      homes = λ t index at. kept_home done wills t (k.homes t index at);
      members = k.members;
      once = k.once;
      few = omega (arith, few);
      wills = have.1;
    })
  where
    kept_home : (hub : State) (wills : List WillLeft) (t : ℕ) → Home hub t
        → Home (with_wills wills hub) t
    kept_home hub wills t home =
        let r = home.room in
        record {
          room = record
              { index = r.index; name = r.name; room_sessions = r.room_sessions; there = r.there };
          session = home.session;
          at = home.at;
          is = home.is;
        }
does_will_is_hub old new wills answer h is step = absurd step

-- a room that begins anew, in which nobody is

begins_is_hub : (old new : State) (name : List ℕ) (rev : ℕ) (d : Document) → IsHub old
    → (step : BeginsAnew old name rev d new) → step.room.sessions ≡ [] → IsHub new
begins_is_hub old new name rev d h step empty =
    let g = step.room in
    let anew = room_sessions (begun d rev old.config.history) [] in
    let next = with_room step.index name anew old in
    subst IsHub (sym step.begins) (record {
      config = h.config;
      floor = h.floor;
      below = h.below;
      homes = λ t p t_at.
          let home = h.homes t p t_at in
          set_homes old next step.index name g anew step.there refl t home home.at (λ same.
          absurd (nobody g t home.session empty
          (same_home old t step.index name g home step.there same)));
      members = set_alone old next step.index name anew h refl (λ t p e other. e) (λ t x none.
          absurd (cc none));
      once = set_once old next step.index name anew h refl tt;
      few = h.few;
      wills = have_set old.rooms step.index (name, anew) old.wills h.wills;
    })
  where
    nobody : (g : RoomSessions) (t : ℕ) (x : Session) → g.sessions ≡ []
        → session_in g.sessions t ≡ Some x → ⊥
    nobody g t x empty there = cc (absent g t empty, there)

-- a floor that rises

raises_is_hub : (old : State) (rev : ℕ) → IsHub old
    → IsHub (with_floor (raised_floor rev old.floor) old)
raises_is_hub old rev h = record {
  config = h.config;
  floor = omega (arith, h.floor);
  below = h.below;
  homes = λ t index at. kept_home t (h.homes t index at);
  members = h.members;
  once = h.once;
  few = h.few;
  wills = h.wills;
}
  where
    kept_home : (t : ℕ) → Home old t → Home (with_floor (raised_floor rev old.floor) old) t
    kept_home t home =
        let r = home.room in
        record {
          room = record
              { index = r.index; name = r.name; room_sessions = r.room_sessions; there = r.there };
          session = home.session;
          at = home.at;
          is = home.is;
        }

-- a step keeps `IsHub`
pub step_is_hub : (old new : State) (event : Event) (answer : Answer) → IsHub old
    → Step old event answer new → IsHub new
step_is_hub old new (Open name access) (Opened o) h step =
    open_is_hub old new name access o h step.0 step.1
step_is_hub old new (Open name access) (NotOpened fault) h step = rw step.1 h
step_is_hub old new (Receive s text) answer h step =
    at_home_is_hub old new answer (λ g k.
    Receives old.config s (session_in g.sessions s) text answer g k) (index_of old s) h
    (λ g k does. receive_keeps old.config s (session_in g.sessions s) text answer g k refl does)
    step
step_is_hub old new (Draw s) answer h step =
    at_home_is_hub old new answer (λ g k.
    Draws s (session_in g.sessions s) answer g k) (index_of old s) h
    (λ g k does. draw_keeps s (session_in g.sessions s) answer g k refl does) step
step_is_hub old new (Close s) answer h step =
    close_is_hub old new s (index_of old s) answer h refl step
step_is_hub old new DoWill answer h step = does_will_is_hub old new old.wills answer h refl step
step_is_hub old new (Forget name) (Forgotten rev) h step =
    let anew = step.1 in
    begins_is_hub old new name rev null h anew.0 (forgets_idle old new name rev step.0 anew).empty
step_is_hub old new (Forget name) (NotForgotten fault) h step = rw step.1 h
step_is_hub old new (Forget name) answer h step = absurd step
step_is_hub old new (Adopt name rev d) Adopted h step =
    begins_is_hub old new name rev d h step.1 (adopts_idle old new name rev d step.0 step.1).empty
step_is_hub old new (Adopt name rev d) (NotAdopted fault) h step = rw step.1 h
step_is_hub old new (Adopt name rev d) answer h step = absurd step
step_is_hub old new (RaiseFloor rev) FloorRaised h step = rw step (raises_is_hub old rev h)
step_is_hub old new (RaiseFloor rev) answer h step = absurd step
step_is_hub old new (Open name access) answer h step = absurd step

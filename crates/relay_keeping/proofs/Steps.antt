-- A store that is behind a hub stays behind it, whatever is called on the hub.
use Rattle.std.proofs.Common.{◌≡◌, ◌∙◌, ◌+◌, ◌-◌, ◌≤◌, ℕ, zero, suc, Bool, true, false}
use Rattle.std.proofs.Common.{List, [], ◌∷◌, ◌++◌, length, length-append, replicate, arith}
use Rattle.std.proofs.Common.{slice_get, slice_set, bytes_eq, Option, Some, None, ap, subst, sym}
use Rattle.std.proofs.Common.{refl, if◌then◌else◌}
use Rattle.std.proofs.lemmas.List.{length-map, length-set}
use Rattle.relay_hub.specs.Call.{Runs, followed, stops, steps}
use Rattle.relay_hub.specs.Log.{Bequest, Log, Stay, document_added, document_left, documents}
use Rattle.relay_hub.specs.Log.{documents_after, entry, extended, home, left, reaching, renewed}
use Rattle.relay_hub.specs.Shed.{shed, shed_budget, shed_named}
use Rattle.relay_hub.specs.Stands.{HoldsRevision}
use Rattle.relay_hub.specs.State.{RoomSessions, State, index_named, index_of, room_sessions}
use Rattle.relay_hub.specs.State.{session_in, vacant_in}
use Rattle.relay_hub.specs.Step.{AtIndex, BeginsAnew, ClosesAt, ClosesIn, ClosesInRoom}
use Rattle.relay_hub.specs.Step.{DoesWill, Draws, EntersRooms, Receives, WillServed}
use Rattle.relay_hub.specs.Step.{InRoom, Opens, Step, raised_floor}
use Rattle.relay_hub.specs.Step.{with_room}
use Rattle.relay_hub.specs.declared.event.Answer.{Answer}
use Rattle.relay_hub.specs.declared.event.Answer.TheVariants.{Opened, NotOpened, Heard, Closed}
use Rattle.relay_hub.specs.declared.event.Answer.TheVariants.{WillDone, NoWill, Forgotten}
use Rattle.relay_hub.specs.declared.event.Answer.TheVariants.{NotForgotten, Adopted, NotAdopted}
use Rattle.relay_hub.specs.declared.event.Answer.TheVariants.{FloorRaised, NoSession}
use Rattle.relay_hub.specs.declared.event.Event.{Event}
use Rattle.relay_hub.specs.declared.event.Event.TheVariants.{Open, Receive, Draw, Close, DoWill}
use Rattle.relay_hub.specs.declared.event.Event.TheVariants.{Forget, Adopt, RaiseFloor}
use Rattle.relay_hub.specs.declared.event.Heard.TheVariants.{Answered}
use Rattle.relay_hub.specs.declared.event.Opening.{Opening}
use Rattle.relay_hub.specs.Session.{Session, newcomer}
use Rattle.relay_access.specs.declared.access.Access.{Access}
use Rattle.relay_hub.specs.declared.will.Will.{Will}
use Rattle.relay_hub.proofs.Floors.{floor_rises}
use Rattle.relay_proto.specs.Client.{Client, holds, lost, nothing}
use Rattle.relay_tree.specs.Document.{Document, null}
use Rattle.relay_keeping.specs.Mirrored.{client_of, whole_view}
use Rattle.relay_keeping.specs.Noted.{Noted}
use Rattle.relay_keeping.specs.Trailing.{Trails}
use Rattle.relay_store.specs.Kept.{Kept, revision}
use Rattle.relay_room.specs.Edit.{edited}
use Rattle.relay_room.specs.Room.{begun}
use Rattle.relay_view.specs.View.{view}
use Rattle.std.specs.Option.{option_map}

-- Documents are only added.

-- each document stays at its revision
abbrev Stays : (old new : List Document) → Type 0
Stays old new = (rev : ℕ) (d : Document) → slice_get old rev ≡ Some d → slice_get new rev ≡ Some d

appended : (ds more : List Document) → Stays ds (ds ++ more)
appended [] more rev d at = absurd (cc at)
appended (e ∷ ds) more zero d at = at
appended (e ∷ ds) more (suc rev) d at = appended ds more rev d at

documents_stay : (E : Log) (event : Event) (answer : Answer) (name : List ℕ)
    → Stays (documents E name) (documents (entry event answer ∷ E) name)
documents_stay E event answer name = after (home E) (left E) (documents E name) event answer
  where
    more : (ds : List Document) (o : Option Document) → Stays ds (extended ds o)
    more ds None = λ rev d at. at
    more ds (Some e) = appended ds (e ∷ [])

    reached : (here : Bool) (ds : List Document) (rev : ℕ)
        → Stays ds (if here then reaching rev ds else ds)
    reached true ds rev = appended ds (replicate (rev + 1 - length ds) null)
    reached false ds rev = λ r d at. at

    renews : (here : Bool) (rev : ℕ) (e : Document) (ds : List Document)
        → Stays ds (if here then renewed rev e ds else ds)
    renews true rev e ds = appended ds (replicate (rev - length ds) null ++ e ∷ [])
    renews false rev e ds = λ r d at. at

    after : (homes : ℕ → Option Stay) (wills : List Bequest) (ds : List Document) (event : Event)
        (answer : Answer) → Stays ds (documents_after homes wills ds name event answer)
    after homes wills ds (Open room access) (Opened o) = reached (bytes_eq room name) ds o.rev
    after homes wills ds (Receive s text) (Heard (Answered short)) =
        more ds (document_added ds name (homes s) text)
    after homes wills ds DoWill (WillDone short) = more ds (document_left ds name wills)
    after homes wills ds (Forget room) (Forgotten rev) = renews (bytes_eq room name) rev null ds
    after homes wills ds (Adopt room rev d) Adopted = renews (bytes_eq room name) rev d ds
    after homes wills ds _ _ = λ rev d at. at

-- Rooms are only added or replaced, and the floor only rises.

record Grows (old new : State) : Type 0 where
  rooms : length old.rooms ≤ length new.rooms
  floor : old.floor ≤ new.floor

same : (old new : State) → new ≡ old → Grows old new
same old new is = subst (Grows old) (sym is) (record { rooms = omega arith; floor = omega arith })

written : (old new : State) (index : ℕ) (room : List ℕ × RoomSessions)
    → new.rooms ≡ slice_set old.rooms index room → new.floor ≡ old.floor → Grows old new
written old new index room rooms floor = record {
  rooms = (let count = ap length rooms ∙ length-set old.rooms index room in omega (arith, count));
  floor = omega (arith, floor);
}

-- what happens in a room writes that room
in_room : (index : ℕ) (at : Option (List ℕ × RoomSessions)) (old new : State) (answer : Answer)
    (Does : RoomSessions → RoomSessions → Type 0) → InRoom index at old answer Does new
    → Grows old new
in_room index (Some there) old new answer Does (g, does, is) =
    subst (Grows old) (sym is)
    (written old (with_room index there.0 g old) index (there.0, g) refl refl)
in_room index None old new answer Does (none, is) = same old new is

at_index : (index : Option ℕ) (old new : State) (answer : Answer)
    (Does : RoomSessions → RoomSessions → Type 0) → AtIndex index old answer Does new
    → Grows old new
at_index (Some index) old new answer Does at =
    in_room index (slice_get old.rooms index) old new answer Does at
at_index None old new answer Does (none, is) = same old new is

enters : (o : Opening) (entrant : ℕ → Session) (vacant : Option ℕ) (history floor : ℕ)
    (name : List ℕ) (at : Option ℕ) (old : List (List ℕ × RoomSessions)) (index : ℕ)
    (new : List (List ℕ × RoomSessions))
    → EntersRooms o entrant vacant history floor name at old index new → length old ≤ length new
enters o entrant vacant history floor name (Some i) old index new
    (place, known, g, h, there, is, rev, only) =
    let count = ap length is ∙ length-set old i (known, h) in omega (arith, count)
enters o entrant (Some i) history floor name None old index new (rev, founds) =
    let count = ap length founds.1 ∙ length-set old i _ in omega (arith, count)
enters o entrant None history floor name None old index new (rev, founds) =
    let count = ap length founds.1 ∙ length-append old (_ ∷ []) in omega (arith, count)

opens : (old new : State) (name : List ℕ) (access : Access) (o : Opening)
    → Opens old name access o new → Grows old new
opens old new name access o is = record {
  rooms = enters o (λ rev. newcomer old.config access rev o.session) (vacant_in old)
      old.config.history new.floor name (index_named name old.rooms) old.rooms is.index new.rooms
      is.enters;
  floor = subst (λ floor. old.floor ≤ floor) (sym is.floor)
      (floor_rises old (index_named name old.rooms));
}

closes : (s : ℕ) (at : Option ℕ) (old : State) (answer : Answer) (new : State)
    → ClosesAt s at old answer new → Grows old new
closes s None old answer new (none, is) = same old new is
closes s (Some index) old answer new at = go (slice_get old.rooms index) at
  where
    inside : (there : List ℕ × RoomSessions) (x : Option Session) (answer : Answer)
        → ClosesIn s index there.0 there.1 x old answer new → Grows old new
    inside there None NoSession is = same old new is
    inside there (Some x) Closed is =
        written old new index (there.0, is.left) is.rooms is.floor
    inside there x answer is = absurd is

    go : (room : Option (List ℕ × RoomSessions)) → ClosesInRoom s index room old answer new
        → Grows old new
    go (Some there) at = inside there (session_in there.1.sessions s) answer at
    go None (none, is) = same old new is

does_will : (wills : List Will) (old : State) (answer : Answer) (new : State)
    → DoesWill wills old answer new → Grows old new
does_will [] old NoWill new is = same old new is
does_will (w ∷ wills) old (WillDone short) new (done, is, at) =
    let grows = in_room w.room_index (slice_get old.rooms w.room_index) old done (WillDone short)
    (λ g h. WillServed old.config w.patch (edited g.room None w.patch) short g h) at in
    subst (Grows old) (sym is) (record { rooms = grows.rooms; floor = grows.floor })
does_will wills old answer new is = absurd is

anew : (old : State) (name : List ℕ) (rev : ℕ) (d : Document) (new : State)
    → BeginsAnew old name rev d new → Grows old new
anew old name rev d new is =
    let room = room_sessions (begun d rev old.config.history) [] in
    subst (Grows old) (sym is.begins)
    (written old (with_room is.index name room old) is.index (name, room) refl refl)

-- each step does so
step_grows : (old : State) (event : Event) (answer : Answer) (new : State)
    → Step old event answer new → Grows old new
step_grows old (Open name access) (Opened o) new step = opens old new name access o step.1
step_grows old (Open name access) (NotOpened fault) new step = same old new step.1
step_grows old (Open name access) answer new step = absurd step
step_grows old (Receive s text) answer new step =
    at_index (index_of old s) old new answer
    (λ g h. Receives old.config s (session_in g.sessions s) text answer g h) step
step_grows old (Draw s) answer new step =
    at_index (index_of old s) old new answer
    (λ g h. Draws s (session_in g.sessions s) answer g h) step
step_grows old (Close s) answer new step = closes s (index_of old s) old answer new step
step_grows old DoWill answer new step = does_will old.wills old answer new step
step_grows old (Forget name) (Forgotten rev) new step = anew old name rev null new step.1.0
step_grows old (Forget name) (NotForgotten fault) new step = same old new step.1
step_grows old (Forget name) answer new step = absurd step
step_grows old (Adopt name rev d) Adopted new step = anew old name rev d new step.1
step_grows old (Adopt name rev d) (NotAdopted fault) new step = same old new step.1
step_grows old (Adopt name rev d) answer new step = absurd step
step_grows old (RaiseFloor rev) FloorRaised new step =
    subst (Grows old) (sym step) (record {
      rooms = omega arith;
      floor = (let highest = raised_floor rev old.floor in omega arith);
    })
step_grows old (RaiseFloor rev) answer new step = absurd step

-- A store that is behind the hub.

-- a client that holds a revision holds it still
holds_still : (old new : List Document) (rev : ℕ) (c : Client) → Stays old new
    → HoldsRevision old whole_view rev c → HoldsRevision new whole_view rev c
holds_still old new rev (holds held tree) stays is =
    (is.0, go (slice_get old rev) refl is.1)
  where
    go : (o : Option Document) → slice_get old rev ≡ o
        → option_map (view whole_view) o ≡ Some tree
        → option_map (view whole_view) (slice_get new rev) ≡ Some tree
    go (Some d) at shows = ap (option_map (view whole_view)) (stays rev d at) ∙ shows
    go None at shows = absurd (cc shows)
holds_still old new rev nothing stays is = absurd is
holds_still old new rev lost stays is = absurd is

-- a step of the hub leaves the store behind it
pub step_behind : (E : Log) (kept : Kept) (noted : Noted) (least : ℕ) (old : State) (event : Event)
    (answer : Answer) (new : State) → Step old event answer new → Trails E kept noted least old
    → Trails (entry event answer ∷ E) kept noted least new
step_behind E kept noted least old event answer new step trails =
    let grows = step_grows old event answer new step in
    record {
      clients = λ name room named.
          holds_still (documents E name) (documents (entry event answer ∷ E) name) (revision room)
          (client_of room) (documents_stay E event answer name) (trails.clients name room named);
      kept = trails.kept;
      noted = λ name room named.
          let is = trails.noted name room named in
          record {
            index = is.index;
            there = is.there;
            within = omega (arith, is.within, grows.rooms);
          };
      once = trails.once;
      floor = trails.floor;
      behind = omega (arith, trails.behind, grows.floor);
    }

none_followed : (E : Log) (events : List Event) → followed E events [] ≡ E
none_followed E [] = refl
none_followed E (event ∷ events) = refl

-- and so does a run of them
pub run_behind : (E : Log) (kept : Kept) (noted : Noted) (least : ℕ) (old : State)
    (events : List Event) (answers : List Answer) (new : State) → Runs old events answers new
    → Trails E kept noted least old → Trails (followed E events answers) kept noted least new
run_behind E kept noted least old events answers new (stops hub rest) trails =
    subst (λ E. Trails E kept noted least hub) (sym (none_followed E rest)) trails
run_behind E kept noted least old events answers new
    (steps was mid last event rest answer more first others) trails =
    run_behind (entry event answer ∷ E) kept noted least mid rest more last others
    (step_behind E kept noted least was event answer mid first trails)

-- each document stays at its revision as the log grows
stay_grown : (E more : Log) (name : List ℕ) → Stays (documents E name) (documents (more ++ E) name)
stay_grown E [] name = λ rev d at. at
stay_grown E (e ∷ more) name =
    λ rev d at.
    documents_stay (more ++ E) e.event e.answer name rev d (stay_grown E more name rev d at)

-- so a store stays behind a hub whose log grew, and whose rooms and floor did not get fewer or fall
pub log_behind : (E more : Log) (kept : Kept) (noted : Noted) (least : ℕ) (old new : State)
    → length old.rooms ≤ length new.rooms → old.floor ≤ new.floor
    → Trails E kept noted least old → Trails (more ++ E) kept noted least new
log_behind E more kept noted least old new rooms floor trails = record {
  clients = λ name room named.
      holds_still (documents E name) (documents (more ++ E) name) (revision room)
      (client_of room) (stay_grown E more name) (trails.clients name room named);
  kept = trails.kept;
  noted = λ name room named.
      let is = trails.noted name room named in
      record { index = is.index; there = is.there; within = omega (arith, is.within, rooms) };
  once = trails.once;
  floor = trails.floor;
  behind = omega (arith, trails.behind, floor);
}

-- memory that is given back leaves it behind too
pub shed_behind : (E : Log) (kept : Kept) (noted : Noted) (least : ℕ) (old : State)
    → Trails E kept noted least old → Trails E kept noted least (shed old)
shed_behind E kept noted least old trails = record {
  clients = trails.clients;
  kept = trails.kept;
  noted = λ name room named.
      let is = trails.noted name room named in
      let count = length-map old.rooms (shed_named (shed_budget old.config.history_weight)) in
      record { index = is.index; there = is.there; within = omega (arith, is.within, count) };
  once = trails.once;
  floor = trails.floor;
  behind = trails.behind;
}

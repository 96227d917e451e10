-- One step of a hub: the answer to an event, and the state after it. What a case does not name is
-- unchanged.
use Rattle.std.specs.Prelude.{ℕ, ◌≡◌, ◌⊎◌, ◌+◌, ◌<◌, ◌==◌, Bool, true, false, List, [], ◌∷◌, ◌++◌}
use Rattle.std.specs.Prelude.{Option, Some, None, option_map, Result, Ok, Err, length}
use Rattle.std.specs.Prelude.{option_and_then, slice_get, slice_set, nat_lt, nat_le, nat_eq, not, ⊤}
use Rattle.std.specs.Prelude.{◌||◌, max, min}
use Rattle.std.specs.List.{list_any}
use Rattle.std.specs.Prelude.{if◌then◌else◌}
use Rattle.relay_audience.specs.ViewOrder.{same_view}
use Rattle.relay_history.specs.History.{with_revision}
use Rattle.relay_outbox.specs.Outbox.{folded}
use Rattle.relay_outbox.specs.declared.outbox.TheConstants.{MAX_REPLIES}
use Rattle.relay_patch.specs.Change.{Leads, all_changes}
use Rattle.relay_patch.specs.declared.bounds.TheConstants.Bounds.{DOCUMENT}
use Rattle.relay_patch.specs.declared.change.Change.{Change}
use Rattle.relay_patch.specs.declared.op.Op.{Op}
use Rattle.relay_view.specs.View.{View}
use Rattle.relay_proto.specs.Request.{request_of_text}
use Rattle.relay_access.specs.RoomName.{is_room_name}
use Rattle.relay_access.specs.declared.access.Access.{Access}
use Rattle.relay_proto.specs.declared.refusal.Refusal.{Refusal}
use Rattle.relay_proto.specs.declared.reply.Reply.{Reply}
use Rattle.relay_proto.specs.declared.reply.Reply.TheVariants.{Done}
use Rattle.relay_proto.specs.declared.request.Request.{Request}
use Rattle.relay_proto.specs.declared.request.Request.TheVariants.{Edit, Will, Watch, Resume}
use Rattle.relay_proto.specs.declared.request.Request.TheVariants.{Unwatch}
use Rattle.relay_room.specs.CatchUp.{caught_up_within, patch_or_snapshot, MakesPresent, LeadsOn}
use Rattle.relay_room.specs.CatchUp.{Fits}
use Rattle.relay_room.specs.Edit.{edited}
use Rattle.relay_room.specs.Room.{State as Room, IsRoom, begun, revision, trimmed}
use Rattle.relay_room.specs.declared.catch_up.CatchUp.{CatchUp}
use Rattle.relay_room.specs.declared.catch_up.CatchUp.TheVariants.{Snapshot}
use Rattle.relay_room.specs.declared.fault.EditFault.{EditFault}
use Rattle.relay_translate.specs.Translate.{local, afforded}
use Rattle.relay_tree.specs.Document.{Document, null, depth, weight}
use Rattle.relay_tree.specs.declared.budget.Budget.{Budget}
use Rattle.relay_limits.specs.declared.TheConstants.{MAX_COUNT}
use Rattle.relay_hub.specs.declared.config.HubConfig.{HubConfig}
use Rattle.relay_hub.specs.declared.event.Answer.{Answer}
use Rattle.relay_hub.specs.declared.event.Answer.TheVariants.{Opened, NotOpened, Heard, Drawn}
use Rattle.relay_hub.specs.declared.event.Answer.TheVariants.{Closed, WillDone, NoWill, Forgotten}
use Rattle.relay_hub.specs.declared.event.Answer.TheVariants.{NotForgotten, Adopted}
use Rattle.relay_hub.specs.declared.event.Answer.TheVariants.{NotAdopted, FloorRaised, NoSession}
use Rattle.relay_hub.specs.declared.event.Event.{Event}
use Rattle.relay_hub.specs.declared.event.Event.TheVariants.{Open, Receive, Draw, Close, DoWill}
use Rattle.relay_hub.specs.declared.event.Event.TheVariants.{Forget, Adopt, RaiseFloor}
use Rattle.relay_hub.specs.declared.event.Opening.{Opening}
use Rattle.relay_hub.specs.declared.event.Heard.TheVariants.{Answered, Busy}
use Rattle.relay_hub.specs.declared.fault.AdoptFault.{AdoptFault}
use Rattle.relay_hub.specs.declared.fault.AdoptFault.TheVariants as adopt
use Rattle.relay_hub.specs.declared.fault.ForgetFault.{ForgetFault}
use Rattle.relay_hub.specs.declared.fault.ForgetFault.TheVariants as forget
use Rattle.relay_hub.specs.declared.will.Will.{Will as WillLeft}
use Rattle.relay_hub.specs.declared.fault.OpenFault.{OpenFault}
use Rattle.relay_hub.specs.declared.fault.OpenFault.TheVariants.{RoomName, RoomsFull, SessionsFull}
use Rattle.relay_hub.specs.declared.fault.OpenFault.TheVariants.{Exhausted}
use Rattle.relay_hub.specs.Admitted.{admitted}
use Rattle.relay_hub.specs.Allowance.{Making, smaller, update_for}
use Rattle.relay_hub.specs.Refusal.{refused, edit_refusal, future_refusal}
use Rattle.relay_hub.specs.Session.{Session, with_outbox, replied, newcomer, leaves_will, watches}
use Rattle.relay_hub.specs.Session.{unwatches, resumes, notified_outbox, front_message}
use Rattle.relay_hub.specs.Session.{message_text, ReadsBack, drawn}
use Rattle.relay_hub.specs.State.{RoomSessions, room_sessions, State, EachOnce, index_of}
use Rattle.relay_hub.specs.State.{index_named, vacant_in, floor_at, is_crowded, session_in}
use Rattle.relay_hub.specs.State.{numbers}

-- Within a room.

-- only that session differs, and is now x; and if no two sessions had the same number, none do now
pub record OnlyAt (s : ℕ) (x : Option Session) (old new : List Session) : Type 0 where
  pub found : (t : ℕ) → session_in new t ≡ (if s == t then x else session_in old t)
  pub once : EachOnce old → EachOnce new

-- of a room with its sessions, only that session differs
abbrev pub ChangesOnly : ℕ → Option Session → RoomSessions → RoomSessions → Type 0
ChangesOnly s x old new = (new.room ≡ old.room) × OnlyAt s x old.sessions new.sessions

-- An edit.

-- the room moves to the document d by the changes of a patch, which lead from the old document to d
pub record GoesOn (old : Room) (patch : List Op) (d : Document) (new : Room) : Type 0 where
  pub document : new.document ≡ d
  pub history : new.history ≡ with_revision (all_changes old.document patch) old.history
  pub leads : Leads old.document (all_changes old.document patch) d
  pub is : IsRoom new

-- what an edit by some changes means to a view: nothing, the local patch, or, if that is heavier
-- than a budget pays for, a snapshot
abbrev pub telling : Budget → List Change → Room → View → CatchUp
telling budget changes room pointers =
    patch_or_snapshot (afforded budget (local changes room.document pointers))

-- the update that is made for a view when the patches for this edit may still weigh that much, and
-- those that wait for a session this much
abbrev pub making : Budget → List Change → Room → Making
making most changes room left pointers = telling (smaller most left) changes room pointers

-- a watcher is notified of an edit by an update for its view in one of three ways: its outbox is
-- unchanged, if the update is none, or if a snapshot is due already; the patch that brings its view
-- to the new one is added, or a snapshot is due in place of one that is too heavy or one too many;
-- or the outbox folds because memory ran out, and counts as short
abbrev pub NotifiedView : Document → Room → CatchUp → View → Bool → Session → Session → Type 0
NotifiedView d room update pointers true x y =
    (x.outbox.due ≡ false) × (y ≡ with_outbox (folded x.outbox) x)
NotifiedView d room update pointers false x y =
    (y ≡ with_outbox (notified_outbox x.budget (revision room) update x.outbox) x)
    × MakesPresent room pointers d update × Fits update

-- a session that watches nothing is not notified
abbrev pub NotifiedAs : Document → Room → (View → CatchUp) → Option View → Bool → Session → Session
    → Type 0
NotifiedAs d room updates (Some pointers) short x y =
    NotifiedView d room (updates pointers) pointers short x y
NotifiedAs d room updates None short x y = (y ≡ x) × (short ≡ false)

abbrev pub Notified : Document → Room → (View → CatchUp) → Bool → Session → Session → Type 0
Notified d room updates short x y = NotifiedAs d room updates x.view short x y

-- a session that is there is notified and stays, and no other comes
abbrev pub NotifiedIn : Document → Room → (View → CatchUp) → Bool → Option Session → Option Session
    → Type 0
NotifiedIn d room updates short (Some x) (Some y) = Notified d room updates short x y
NotifiedIn d room updates short None None = ⊤
NotifiedIn d room updates short (Some x) None = ⊥
NotifiedIn d room updates short None (Some y) = ⊥

-- how many of some numbers are among others
abbrev pub among : List ℕ → List ℕ → ℕ
among others [] = 0
among others (n ∷ ns) = among others ns + (if list_any (nat_eq n) others then 1 else 0)

-- All sessions of a room are notified of an edit, each by the update for its view, and these many
-- outboxes fold because memory ran out. The patches weigh no more together than `total`, and what
-- waits for a session no more than `most`.
pub record AllNotified (d : Document) (changes : List Change) (room : Room) (most total : Budget)
    (xs ys : List Session) (n : ℕ) : Type 0 where
  -- the views for which updates were made, in order
  pub made : List View
  -- the sessions whose outboxes fold
  pub short : List ℕ
  pub count : n ≡ among short (numbers xs)
  pub same : numbers ys ≡ numbers xs
  pub each : (t : ℕ)
      → NotifiedIn d room (update_for (making most changes room) total made)
      (list_any (nat_eq t) short) (session_in xs t) (session_in ys t)
  -- none is left out: for each view that a session watches and the edit touches an update was
  -- made, unless a snapshot is due for the session already, or its outbox folds
  pub all : (t : ℕ) (x : Session) (v : View) → session_in xs t ≡ Some x → x.view ≡ Some v
      → x.outbox.due ≡ false → list_any (nat_eq t) short ≡ false
      → (local changes room.document v ≡ []) ⊎ (list_any (same_view v) made ≡ true)

-- an edit of session s, which is x. If it is accepted: s gets a reply, then all watchers are
-- notified, and then the room drops what its history may not hold. If it is refused: s gets a
-- reply, and nothing else changes
abbrev pub EditServed : HubConfig → ℕ → Session → ℕ → List Op → Result Document EditFault → ℕ
    → RoomSessions → RoomSessions → Type 0
EditServed config s x id patch (Ok d) short old new =
    (notified : Room) × GoesOn old.room patch d notified
    × (mid : List Session)
    × OnlyAt s (Some (replied (Done id (revision notified)) x)) old.sessions mid
    × AllNotified old.room.document (all_changes old.room.document patch) notified
    config.waiting_weight config.telling_weight mid new.sessions short
    × (new.room ≡ trimmed config.history_weight notified)
EditServed config s x id patch (Err fault) short old new = (short ≡ 0)
    × (r : Reply) × (edit_refusal id fault ≡ Some r) × ChangesOnly s (Some (replied r x)) old new

-- a will that a closed session left, whose patch the room makes into this: an edit of which nobody
-- gets a reply. Refused, it changes nothing
abbrev pub WillServed : HubConfig → List Op → Result Document EditFault → ℕ → RoomSessions
    → RoomSessions → Type 0
WillServed config patch (Ok d) short old new = (notified : Room) × GoesOn old.room patch d notified
    × AllNotified old.room.document (all_changes old.room.document patch) notified
    config.waiting_weight config.telling_weight old.sessions new.sessions short
    × (new.room ≡ trimmed config.history_weight notified)
WillServed config patch (Err fault) short old new = (short ≡ 0) × (new ≡ old)

-- Other requests.

-- a resume. The two booleans: is the epoch the present one, and does the revision exist
abbrev pub ResumeServed : Bool → Bool → ℕ → ℕ → View → ℕ → Session → RoomSessions → RoomSessions
    → Type 0
ResumeServed false past id rev pointers s x old new =
    ChangesOnly s (Some (resumes (revision old.room) id pointers Snapshot x)) old new
ResumeServed true false id rev pointers s x old new =
    ChangesOnly s (Some (replied (refused (future_refusal id)) x)) old new
ResumeServed true true id rev pointers s x old new =
    LeadsOn old.room rev pointers (caught_up_within x.budget old.room rev pointers)
    × Fits (caught_up_within x.budget old.room rev pointers)
    × ChangesOnly s (Some
    (resumes (revision old.room) id pointers (caught_up_within x.budget old.room rev pointers) x))
    old new

-- the effect of a text that session s sent, which is x
abbrev pub Serves : HubConfig → ℕ → Session → Result Request Refusal → ℕ → RoomSessions
    → RoomSessions → Type 0
Serves config s x (Err r) short old new =
    (short ≡ 0) × ChangesOnly s (Some (replied (refused r) x)) old new
Serves config s x (Ok (Watch id pointers)) short old new =
    (short ≡ 0) × ChangesOnly s (Some (watches id pointers x)) old new
Serves config s x (Ok (Unwatch id)) short old new =
    (short ≡ 0) × ChangesOnly s (Some (unwatches id x)) old new
Serves config s x (Ok (Will id patch)) short old new =
    (short ≡ 0) × ChangesOnly s (Some (leaves_will id patch x)) old new
Serves config s x (Ok (Resume id e rev pointers)) short old new =
    (short ≡ 0)
    × ResumeServed (e == config.epoch) (nat_le rev (revision old.room)) id rev pointers s x old
    new
Serves config s x (Ok (Edit id base patch)) short old new =
    EditServed config s x id patch (edited old.room base patch) short old new

-- The calls, within a room.

abbrev pub Receives : HubConfig → ℕ → Option Session → List ℕ → Answer → RoomSessions
    → RoomSessions → Type 0
Receives config s None text NoSession old new = new ≡ old
Receives config s (Some x) text (Heard Busy) old new =
    (length x.outbox.replies ≡ MAX_REPLIES) × (new ≡ old)
Receives config s (Some x) text (Heard (Answered short)) old new =
    (length x.outbox.replies < MAX_REPLIES)
    × Serves config s x (admitted config.view_weight x.access (request_of_text text)) short old new
Receives config s x text answer old new = ⊥

abbrev pub Draws : ℕ → Option Session → Answer → RoomSessions → RoomSessions → Type 0
Draws s None NoSession old new = new ≡ old
Draws s (Some x) (Drawn text) old new =
    (text ≡ option_map message_text (front_message old.room x))
    × ChangesOnly s (Some (drawn x)) old new × ReadsBack (front_message old.room x)
Draws s x answer old new = ⊥

-- The whole hub.

abbrev pub with_room : ℕ → List ℕ → RoomSessions → State → State
with_room index name g hub = record {
  config = hub.config;
  next = hub.next;
  floor = hub.floor;
  rooms = slice_set hub.rooms index (name, g);
  homes = hub.homes;
  wills = hub.wills;
}

abbrev pub with_wills : List WillLeft → State → State
with_wills wills hub = record {
  config = hub.config;
  next = hub.next;
  floor = hub.floor;
  rooms = hub.rooms;
  homes = hub.homes;
  wills = wills;
}

abbrev pub with_floor : ℕ → State → State
with_floor floor hub = record {
  config = hub.config;
  next = hub.next;
  floor = floor;
  rooms = hub.rooms;
  homes = hub.homes;
  wills = hub.wills;
}

-- what happens in the room at an index; nothing else changes
abbrev pub InRoom : ℕ → Option (List ℕ × RoomSessions) → State → Answer
    → (RoomSessions → RoomSessions → Type 0) → State → Type 0
InRoom index (Some home) old answer Does new =
    (g : RoomSessions) × Does home.1 g × (new ≡ with_room index home.0 g old)
InRoom index None old answer Does new = (answer ≡ NoSession) × (new ≡ old)

-- the same in the room of a session, if it has one
abbrev pub AtIndex : Option ℕ → State → Answer → (RoomSessions → RoomSessions → Type 0) → State
    → Type 0
AtIndex (Some index) old answer Does new =
    InRoom index (slice_get old.rooms index) old answer Does new
AtIndex None old answer Does new = (answer ≡ NoSession) × (new ≡ old)

abbrev pub AtHome : ℕ → State → Answer → (RoomSessions → RoomSessions → Type 0) → State → Type 0
AtHome s old answer Does new = AtIndex (index_of old s) old answer Does new

-- the first reason not to open a session in a room of that name
abbrev pub open_fault : State → List ℕ → Option OpenFault
open_fault hub name =
    if not (is_room_name name) then Some RoomName else
    if is_crowded (index_named name hub.rooms) hub then Some RoomsFull else
    if nat_le hub.config.sessions (length hub.homes + length hub.wills) then Some SessionsFull else
    if nat_lt MAX_COUNT hub.next then Some Exhausted else None

-- a new room, with its first session, is the last one, or replaces one that is evictable
abbrev pub Founds : Option ℕ → List ℕ × RoomSessions → List (List ℕ × RoomSessions) → ℕ
    → List (List ℕ × RoomSessions) → Type 0
Founds (Some i) room old index new = (index ≡ i) × (new ≡ slice_set old i room)
Founds None room old index new = (index ≡ length old) × (new ≡ old ++ room ∷ [])

abbrev pub opening_of : ℕ → ℕ → Opening
opening_of session rev = record { session = session; rev = rev }

-- the new session, which `entrant` gives for the room's revision, enters a room that is there, or a
-- new one, whose document is null at the floor, at the vacant index if there is one
abbrev pub EntersRooms : Opening → (ℕ → Session) → Option ℕ → ℕ → ℕ → List ℕ → Option ℕ
    → List (List ℕ × RoomSessions) → ℕ → List (List ℕ × RoomSessions) → Type 0
EntersRooms o entrant vacant history floor name (Some i) old index new = (index ≡ i)
    × (known : List ℕ) × (g : RoomSessions) × (h : RoomSessions)
    × (slice_get old i ≡ Some (known, g))
    × (new ≡ slice_set old i (known, h))
    × (o.rev ≡ revision g.room)
    × ChangesOnly o.session (Some (entrant (revision g.room))) g h
EntersRooms o entrant vacant history floor name None old index new =
    (o.rev ≡ floor) × Founds vacant (
      name,
      room_sessions (begun null floor history) (entrant floor ∷ []),
    ) old index new

-- the floor of a hub after a session entered a room that is there, or a new one
abbrev pub floor_after : Option ℕ → State → ℕ
floor_after (Some i) hub = hub.floor
floor_after None hub = floor_at (vacant_in hub) hub

-- the same in a hub
abbrev pub Enters : Opening → List ℕ → Access → Option ℕ → State → ℕ → State → Type 0
Enters o name access at old index new =
    EntersRooms o (λ rev.
    newcomer old.config access rev o.session) (vacant_in old) old.config.history new.floor name at
    old.rooms index new.rooms

pub record Opens (old : State) (name : List ℕ) (access : Access) (o : Opening)
    (new : State) : Type 0 where
  pub number : o.session ≡ old.next
  pub next : new.next ≡ o.session + 1
  pub config : new.config ≡ old.config
  pub floor : new.floor ≡ floor_after (index_named name old.rooms) old
  pub index : ℕ
  pub enters : Enters o name access (index_named name old.rooms) old index new
  pub home : (t : ℕ) → index_of new t ≡ (if o.session == t then Some index else index_of old t)
  pub count : length new.homes ≡ length old.homes + 1
  pub wills : new.wills ≡ old.wills

-- the will of a session of the room at an index, which may be empty
abbrev pub will_of : ℕ → Session → WillLeft
will_of room_index x =
    record { session = x.number; number = x.will_number; room_index = room_index; patch = x.will }

-- what a session leaves to be done: nothing, or its will
abbrev pub left_of : ℕ → ℕ → ℕ → List Op → List WillLeft
left_of s number room_index [] = []
left_of s number room_index (op ∷ ops) =
    record { session = s; number = number; room_index = room_index; patch = op ∷ ops } ∷ []

-- session s, which is x, is removed from its room, which stays, and is open nowhere; its will is
-- left to be done
pub record Closes (s index : ℕ) (name : List ℕ) (g : RoomSessions) (x : Session) (old : State)
    (new : State) : Type 0 where
  pub next : new.next ≡ old.next
  pub config : new.config ≡ old.config
  pub floor : new.floor ≡ old.floor
  pub left : RoomSessions
  pub leaves : ChangesOnly s None g left
  pub rooms : new.rooms ≡ slice_set old.rooms index (name, left)
  pub home : (t : ℕ) → index_of new t ≡ (if s == t then None else index_of old t)
  pub count : length new.homes + 1 ≡ length old.homes
  pub wills : new.wills ≡ old.wills ++ left_of s x.will_number index x.will

abbrev pub ClosesIn : ℕ → ℕ → List ℕ → RoomSessions → Option Session → State → Answer → State
    → Type 0
ClosesIn s index name g None old NoSession new = new ≡ old
ClosesIn s index name g (Some x) old Closed new = Closes s index name g x old new
ClosesIn s index name g x old answer new = ⊥

abbrev pub ClosesInRoom : ℕ → ℕ → Option (List ℕ × RoomSessions) → State → Answer → State → Type 0
ClosesInRoom s index (Some home) old answer new =
    ClosesIn s index home.0 home.1 (session_in home.1.sessions s) old answer new
ClosesInRoom s index None old answer new = (answer ≡ NoSession) × (new ≡ old)

abbrev pub ClosesAt : ℕ → Option ℕ → State → Answer → State → Type 0
ClosesAt s (Some index) old answer new =
    ClosesInRoom s index (slice_get old.rooms index) old answer new
ClosesAt s None old answer new = (answer ≡ NoSession) × (new ≡ old)

-- the oldest of the wills that are left is done
abbrev pub DoesWill : List WillLeft → State → Answer → State → Type 0
DoesWill [] old NoWill new = new ≡ old
DoesWill (w ∷ wills) old (WillDone short) new = (done : State) × (new ≡ with_wills wills done)
    × InRoom w.room_index (slice_get old.rooms w.room_index) old (WillDone short)
    (λ g h. WillServed old.config w.patch (edited g.room None w.patch) short g h) done
DoesWill wills old answer new = ⊥

-- the first reason why a room cannot begin anew with a document at a revision: somebody is in it,
-- the revision is not above its own or is no count, or the document is not within the bounds
abbrev pub anew_fault : Document → ℕ → RoomSessions → Option AdoptFault
anew_fault d rev g =
    if not (length g.sessions == 0) then Some adopt.Occupied else
    if nat_le rev (revision g.room) || nat_lt MAX_COUNT rev then Some adopt.NotAbove else
    if nat_lt DOCUMENT.depth (depth d) then Some adopt.TooDeep else
    if nat_lt DOCUMENT.weight (weight d) then Some adopt.TooHeavy else None

-- the first reason why the room of a name does not adopt a document at a revision
abbrev pub adopt_fault_in : Option (List ℕ × RoomSessions) → ℕ → Document → Option AdoptFault
adopt_fault_in None rev d = Some adopt.NoRoom
adopt_fault_in (Some room) rev d = anew_fault d rev room.1

abbrev pub adopt_fault : State → List ℕ → ℕ → Document → Option AdoptFault
adopt_fault hub name rev d =
    adopt_fault_in (option_and_then (slice_get hub.rooms) (index_named name hub.rooms)) rev d

-- the first reason why a room cannot begin anew with null at its next revision
abbrev pub forget_fault_of : RoomSessions → Option ForgetFault
forget_fault_of g =
    if not (length g.sessions == 0) then Some forget.Occupied else
    if nat_le MAX_COUNT (revision g.room) then Some forget.Exhausted else None

-- the first reason not to forget the room of a name
abbrev pub forget_fault_in : Option (List ℕ × RoomSessions) → Option ForgetFault
forget_fault_in None = Some forget.NoRoom
forget_fault_in (Some room) = forget_fault_of room.1

abbrev pub forget_fault : State → List ℕ → Option ForgetFault
forget_fault hub name =
    forget_fault_in (option_and_then (slice_get hub.rooms) (index_named name hub.rooms))

-- the room of that name, in which nobody is, begins anew: it has that document at that revision,
-- which is above its own, and remembers no change
pub record BeginsAnew (old : State) (name : List ℕ) (rev : ℕ) (d : Document)
    (new : State) : Type 0 where
  pub index : ℕ
  pub room : RoomSessions
  pub named : index_named name old.rooms ≡ Some index
  pub there : slice_get old.rooms index ≡ Some (name, room)
  pub begins : new ≡ with_room index name (room_sessions (begun d rev old.config.history) []) old

-- it is forgotten: it begins anew with null, at the next revision
abbrev pub Forgets : State → List ℕ → ℕ → State → Type 0
Forgets old name rev new =
    (anew : BeginsAnew old name rev null new) × (rev ≡ revision anew.room.room + 1)

-- the floor after it was raised to a revision: it never falls, and stays a count
abbrev pub raised_floor : ℕ → ℕ → ℕ
raised_floor rev floor = max floor (min rev MAX_COUNT)

-- An event with its answer takes the hub from one state to the other.
abbrev pub Step : State → Event → Answer → State → Type 0
Step old (Open name access) (Opened o) new =
    (open_fault old name ≡ None) × Opens old name access o new
Step old (Open name access) (NotOpened fault) new = (open_fault old name ≡ Some fault) × (new ≡ old)
Step old (Open name access) answer new = ⊥
Step old (Receive s text) answer new =
    AtHome s old answer (λ g h. Receives old.config s (session_in g.sessions s) text answer g h) new
Step old (Draw s) answer new =
    AtHome s old answer (λ g h. Draws s (session_in g.sessions s) answer g h) new
Step old (Close s) answer new = ClosesAt s (index_of old s) old answer new
Step old DoWill answer new = DoesWill old.wills old answer new
Step old (Forget name) (Forgotten rev) new =
    (forget_fault old name ≡ None) × Forgets old name rev new
Step old (Forget name) (NotForgotten fault) new = (forget_fault old name ≡ Some fault) × (new ≡ old)
Step old (Forget name) answer new = ⊥
Step old (Adopt name rev d) Adopted new =
    (adopt_fault old name rev d ≡ None) × BeginsAnew old name rev d new
Step old (Adopt name rev d) (NotAdopted fault) new =
    (adopt_fault old name rev d ≡ Some fault) × (new ≡ old)
Step old (Adopt name rev d) answer new = ⊥
Step old (RaiseFloor rev) FloorRaised new = new ≡ with_floor (raised_floor rev old.floor) old
Step old (RaiseFloor rev) answer new = ⊥

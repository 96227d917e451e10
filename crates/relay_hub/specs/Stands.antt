-- A hub stands for a log, that is, agrees with it, if it has the documents, the sessions and the
-- views of the log, and every watching client that applies what was drawn for it and what waits
-- holds exactly its view of the present document.
use Rattle.std.specs.Prelude.{ℕ, ◌≡◌, ⊤, ◌+◌, ◌-◌, ◌<◌, min, true, false, List, [], ◌∷◌, ◌++◌}
use Rattle.std.specs.Prelude.{Option, Some, None, length, map, slice_get, option_map, ◌≤◌, ◌⊎◌}
use Rattle.std.specs.List.{AllByRecursion}
use Rattle.std.specs.Option.{option_map_or}
use Rattle.relay_history.specs.History.{Reaches, changes_since}
use Rattle.relay_patch.specs.Change.{Leads}
use Rattle.relay_patch.specs.declared.change.Change.{Change}
use Rattle.relay_patch.specs.declared.op.Op.{Op}
use Rattle.relay_proto.specs.Client.{Client, nothing, holds, lost, client, client_after}
use Rattle.relay_proto.specs.Written.{IsCount, HasCounts}
use Rattle.relay_proto.specs.declared.message.Message.{Message}
use Rattle.relay_proto.specs.declared.message.Message.TheVariants.{Reply, Patch, Snapshot}
use Rattle.relay_room.specs.CatchUp.{IsSent}
use Rattle.relay_room.specs.Room.{State as Room, IsRoom, revision}
use Rattle.relay_tree.specs.Document.{Document, null}
use Rattle.relay_view.specs.View.{View, view}
use Rattle.relay_hub.specs.Log.{Log, Watching, Stay, stay, home, is_opened, documents, beginning}
use Rattle.relay_hub.specs.Log.{present_of, watching, Bequest, left, opened, open_count}
use Rattle.relay_hub.specs.Session.{Session, later}
use Rattle.relay_hub.specs.State.{HaveRooms, State, IsConfig, RoomSessions, index_of, home_of}
use Rattle.relay_hub.specs.State.{index_named, session_in}
use Rattle.relay_tree.specs.declared.budget.Budget.TheVariants.{Unbounded}
use Rattle.relay_hub.specs.declared.config.HubConfig.{HubConfig}
use Rattle.relay_hub.specs.declared.will.Will.{Will}

-- The contents of a client.

-- the client holds that revision, and the view of its document
abbrev pub HoldsRevision : List Document → View → ℕ → Client → Type 0
HoldsRevision documents pointers rev (holds held tree) =
    (held ≡ rev) × (option_map (view pointers) (slice_get documents rev) ≡ Some tree)
HoldsRevision documents pointers rev nothing = ⊥
HoldsRevision documents pointers rev lost = ⊥

-- after the message, the client holds the view of the revision that the message names
abbrev pub IsAtNamed : List Document → View → Message → Client → Type 0
IsAtNamed documents pointers (Reply r) c = ⊤
IsAtNamed documents pointers (Patch rev ops) c = HoldsRevision documents pointers rev c
IsAtNamed documents pointers (Snapshot rev tree) c = HoldsRevision documents pointers rev c

-- after each of the messages, the client holds the view of the revision that the message names
abbrev pub EachLeads : List Document → View → Client → List Message → Type 0
EachLeads documents pointers c [] = ⊤
EachLeads documents pointers c (m ∷ ms) =
    IsAtNamed documents pointers m (client c m) × EachLeads documents pointers (client c m) ms

-- the client holds the view of the present document, and a revision that exists
abbrev pub HoldsPresent : List Document → View → Client → Type 0
HoldsPresent documents pointers (holds held tree) =
    (held < length documents) × (tree ≡ view pointers (present_of documents))
HoldsPresent documents pointers nothing = ⊥
HoldsPresent documents pointers lost = ⊥

-- what was drawn and what waits bring a watching client to its view of the present document
pub record Follows (documents : List Document) (w : Watching)
    (waiting : List Message) : Type 0 where
  pub each : EachLeads documents w.view w.start (w.heard ++ waiting)
  pub exactly : HoldsPresent documents w.view (client_after w.start (w.heard ++ waiting))

-- The contents of a hub.

-- a room that began at a revision has these documents, and keeps the changes of its last revisions:
-- of as many as its limit allows, if nothing is bounded by weight
pub record RoomStands (b : HubConfig) (beginning : ℕ) (documents : List Document)
    (room : Room) : Type 0 where
  pub document : room.document ≡ present_of documents
  pub numbered : revision room + 1 ≡ length documents
  pub began : beginning ≤ revision room
  pub is : IsRoom room
  pub limit : room.history.limit ≡ b.history
  pub held : b.history_weight ≡ Unbounded
      → length room.history.changes ≡ min b.history (revision room - beginning)
  -- the changes since each revision that the history reaches back to lead from its document to the
  -- present one
  pub led : (rev : ℕ) (d : Document) → slice_get documents rev ≡ Some d → Reaches room.history rev
      → Leads d (changes_since rev room.history) room.document
  -- the changes of each revision that is kept lead from the document before it to its own
  pub steps : (rev : ℕ) (before after : Document) (changes : List Change)
      → slice_get documents rev ≡ Some before → slice_get documents (rev + 1) ≡ Some after
      → slice_get room.history.changes (revision room - (rev + 1)) ≡ Some changes
      → Leads before changes after

-- a waiting patch round-trips through its text
abbrev pub PatchFits : ℕ × List Op → Type 0
PatchFits p = IsCount p.0 × AllByRecursion IsSent p.1

-- the replies and patches that wait for a session round-trip through their texts
pub record OutboxStands (most : ℕ) (x : Session) : Type 0 where
  pub max_waiting_patches : x.outbox.max_waiting_patches ≡ most
  pub replies : AllByRecursion HasCounts x.outbox.replies
  pub patches : AllByRecursion PatchFits x.outbox.patches

-- a session that watches has the view, and its client follows; for any other session only replies
-- wait
abbrev pub WatchStands : List Document → Room → Session → Option Watching → Type 0
WatchStands documents room x (Some w) =
    (x.view ≡ Some w.view) × Follows documents w (later room w.view x.outbox)
WatchStands documents room x None =
    (x.view ≡ None) × (x.outbox.patches ≡ []) × (x.outbox.due ≡ false)

-- the stay of a session that is open in the room of that name
abbrev pub stay_of : List ℕ → Session → Stay
stay_of name x = stay name x.access x.will x.will_number

abbrev pub SessionStands : ℕ → (List ℕ → List Document) → List ℕ → Room → Option Session
    → Option Stay → Option Watching → Type 0
SessionStands most documents name room (Some x) there w =
    (there ≡ Some (stay_of name x)) × OutboxStands most x
    × WatchStands (documents name) room x w
SessionStands most documents name room None there w = ⊥

abbrev pub RoomSessionsStand : ℕ → (List ℕ → List Document) → ℕ → Option (List ℕ × RoomSessions)
    → Option Stay → Option Watching → Type 0
RoomSessionsStand most documents s (Some home) there w =
    SessionStands most documents home.0 home.1.room (session_in home.1.sessions s) there w
RoomSessionsStand most documents s None there w = ⊥

-- what holds of session s, whose room is at that index
abbrev pub HomeStands : ℕ → (List ℕ → List Document) → List (List ℕ × RoomSessions) → ℕ → Option ℕ
    → Option Stay → Option Watching → Type 0
HomeStands most documents rooms s (Some at) there w =
    RoomSessionsStand most documents s (slice_get rooms at) there w
HomeStands most documents rooms s None there w = there ≡ None

-- a room that begins anew at the floor begins above the documents of its name, or there is only the
-- first of them
abbrev pub MayBegin : ℕ → List Document → Type 0
MayBegin floor documents = (length documents ≤ floor) ⊎ (documents ≡ null ∷ [])

-- what a will leaves, by the name of its room
abbrev pub named_will : List (List ℕ × RoomSessions) → Will → Bequest
named_will rooms w = record {
  session = w.session;
  number = w.number;
  room = option_map_or (λ r. r.0) (slice_get rooms w.room_index) [];
  patch = w.patch;
}

pub record StandsFor (b : HubConfig) (E : Log) (hub : State) : Type 0 where
  pub config : hub.config ≡ b
  pub floor : IsCount hub.floor
  pub is : IsConfig b
  pub next : hub.next ≡ b.first + opened E
  pub count : length hub.homes ≡ open_count E
  -- each room has the documents of its name
  pub rooms : (index : ℕ) (name : List ℕ) (g : RoomSessions)
      → slice_get hub.rooms index ≡ Some (name, g)
      → RoomStands b (beginning E name) (documents E name) g.room
  -- a room is found by its name
  pub names : (index : ℕ) (name : List ℕ) (g : RoomSessions)
      → slice_get hub.rooms index ≡ Some (name, g) → index_named name hub.rooms ≡ Some index
  -- there is no room of a name that was never opened
  pub known : (name : List ℕ) (index : ℕ) → index_named name hub.rooms ≡ Some index
      → is_opened E name ≡ true
  -- a room that does not exist may begin at the floor
  pub others : (name : List ℕ) → index_named name hub.rooms ≡ None
      → MayBegin hub.floor (documents E name)
  -- the sessions that are open, with their views
  pub sessions : (s : ℕ)
      → HomeStands b.max_waiting_patches (documents E) hub.rooms s (index_of hub s) (home E s)
      (watching b E s)
  -- the wills that are left to be done
  pub wills : map (named_will hub.rooms) hub.wills ≡ left E
  -- each of them has its room
  pub housed : HaveRooms hub.rooms hub.wills

-- Consequences for the clients of a hub that stands for a log.

-- each client that watches, and applies what was drawn for it and what waits, in order, holds
-- exactly its view of the present document
abbrev pub EachHoldsPresent : HubConfig → Log → State → Type 0
EachHoldsPresent b E hub = (s : ℕ) (name : List ℕ) (g : RoomSessions) (x : Session) (w : Watching)
    → home_of hub s ≡ Some (name, g) → session_in g.sessions s ≡ Some x → watching b E s ≡ Some w
    → HoldsPresent (documents E name) w.view
    (client_after w.start (w.heard ++ later g.room w.view x.outbox))

-- after each of these messages the client holds its view of the revision that the message names
abbrev pub EachIsAtNamed : HubConfig → Log → State → Type 0
EachIsAtNamed b E hub =
    (s : ℕ) (name : List ℕ) (g : RoomSessions) (x : Session) (w : Watching)
    (before after : List Message) (m : Message)
    → home_of hub s ≡ Some (name, g) → session_in g.sessions s ≡ Some x → watching b E s ≡ Some w
    → w.heard ++ later g.room w.view x.outbox ≡ before ++ m ∷ after
    → IsAtNamed (documents E name) w.view m (client_after w.start (before ++ m ∷ []))

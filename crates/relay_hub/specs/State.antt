-- A hub as contracts see it: plain data, and how a session and a room are found in it.
use Rattle.std.specs.Prelude.{◌≡◌, ⊤, ℕ, ◌+◌, ◌<◌, ◌≤◌, ◌==◌, max, nat_eq, nat_le, nat_lt, Bool}
use Rattle.std.specs.Prelude.{true, false, ◌&&◌, not, is_some, if◌then◌else◌, length, List, [], ◌∷◌}
use Rattle.std.specs.Prelude.{Option, Some, None, option_and_then, map, find, position, slice_get}
use Rattle.std.specs.Prelude.{bytes_eq, refl}
use Rattle.std.specs.Coded.{Coded, code_by, coded×, coded_list, coded_ℕ}
use Rattle.std.specs.List.{AllByRecursion}
use Rattle.std.specs.List.Sorted.{IsStrictlyIncreasing}
use Rattle.std.specs.Map.{lookup}
use Rattle.relay_limits.specs.declared.TheConstants.{DEFAULT_ROOMS, DEFAULT_SESSIONS, MAX_COUNT}
use Rattle.relay_limits.specs.declared.TheConstants.{MAX_REVISIONS, MAX_ROOMS, MAX_SESSIONS}
use Rattle.relay_limits.specs.declared.TheConstants.{MAX_WAITING_PATCHES}
use Rattle.relay_patch.specs.declared.change.Change.{Change}
use Rattle.relay_patch.specs.declared.op.Op.{Op}
use Rattle.relay_room.specs.Room.{State as Room, state_code, revision}
use Rattle.relay_tree.specs.Document.{Document, null}
use Rattle.relay_tree.specs.declared.budget.Budget.TheVariants.{Unbounded}
use Rattle.relay_hub.specs.Config.{config_code}
use Rattle.relay_hub.specs.declared.config.HubConfig.{HubConfig}
use Rattle.relay_hub.specs.declared.will.Will.{Will}
use Rattle.relay_hub.specs.Session.{Session}

-- a room with the sessions that are open in it
pub record RoomSessions : Type 0 where
  pub room : Room
  pub sessions : List Session

abbrev pub room_sessions : Room → List Session → RoomSessions
room_sessions room sessions = record { room = room; sessions = sessions }

-- the configuration of a hub in which nothing is bounded by weight: its epoch, the number of its
-- first session, the most revisions whose changes a room keeps, and the most patches that wait for
-- a session
abbrev pub config : ℕ → ℕ → ℕ → ℕ → HubConfig
config epoch first history max_waiting_patches = record {
  epoch = epoch;
  first = first;
  rooms = DEFAULT_ROOMS;
  sessions = DEFAULT_SESSIONS;
  history = history;
  max_waiting_patches = max_waiting_patches;
  history_weight = Unbounded;
  waiting_weight = Unbounded;
  telling_weight = Unbounded;
  view_weight = Unbounded;
}

-- a valid configuration: epoch and first session number are counts, and the limits are in their
-- ranges
pub record IsConfig (config : HubConfig) : Type 0 where
  pub rooms : (1 ≤ config.rooms) × (config.rooms ≤ MAX_ROOMS)
  pub sessions : (1 ≤ config.sessions) × (config.sessions ≤ MAX_SESSIONS)
  pub counts : (config.epoch ≤ MAX_COUNT) × (config.first ≤ MAX_COUNT)
  pub history : (1 ≤ config.history) × (config.history ≤ MAX_REVISIONS)
  pub max_waiting_patches : (1 ≤ config.max_waiting_patches)
      × (config.max_waiting_patches ≤ MAX_WAITING_PATCHES)

-- the configuration, the number of the next session, the least revision at which a new room begins,
-- the rooms by name, each at its index (a new one comes last, or replaces one that is evictable),
-- for each open session the index of its room, and the wills that closed sessions left and that are
-- not done yet, the oldest first
pub record State : Type 0 where
  pub config : HubConfig
  pub next : ℕ
  pub floor : ℕ
  pub rooms : List (List ℕ × RoomSessions)
  pub homes : List (ℕ × ℕ)
  pub wills : List Will

-- a hub on which nothing was called yet
abbrev pub made_with : HubConfig → State
made_with c = record { config = c; next = c.first; floor = 0; rooms = []; homes = []; wills = [] }

-- the same of a hub in which nothing is bounded by weight
abbrev pub new_hub : ℕ → ℕ → ℕ → ℕ → State
new_hub epoch first history max_waiting_patches =
    made_with (config epoch first history max_waiting_patches)

-- whether this is the session with that number
abbrev pub is_number : ℕ → Session → Bool
is_number s x = x.number == s

abbrev pub session_in : List Session → ℕ → Option Session
session_in sessions s = find (is_number s) sessions

-- no two sessions have the same number
abbrev pub EachOnce : List Session → Type 0
EachOnce [] = ⊤
EachOnce (x ∷ xs) = (session_in xs x.number ≡ None) × EachOnce xs

-- the numbers of sessions, in order
abbrev pub numbers : List Session → List ℕ
numbers sessions = map (λ x. x.number) sessions

-- each session's number is below that of the next
abbrev pub IsRising : List Session → Type 0
IsRising sessions = IsStrictlyIncreasing (numbers sessions)

-- the index of a session's room
abbrev pub index_of : State → ℕ → Option ℕ
index_of hub s = lookup (nat_eq s) hub.homes

-- a session's room, with its name
abbrev pub home_of : State → ℕ → Option (List ℕ × RoomSessions)
home_of hub s = option_and_then (λ index. slice_get hub.rooms index) (index_of hub s)

abbrev pub session_of : State → ℕ → Option Session
session_of hub s = option_and_then (λ home. session_in home.1.sessions s) (home_of hub s)

-- the index of the room of that name
abbrev pub index_named : List ℕ → List (List ℕ × RoomSessions) → Option ℕ
index_named name rooms = position (λ room. bytes_eq name room.0) rooms

abbrev pub is_null : Document → Bool
is_null null = true
is_null _ = false

-- a room that may be evicted for another one: nobody is in it, its document is null, and a revision
-- above its own is left
abbrev pub is_evictable : RoomSessions → Bool
is_evictable g =
    is_null g.room.document && (length g.sessions == 0) && nat_lt (revision g.room) MAX_COUNT

-- the index of the room that a new one replaces: the first that is evictable, if there are as many
-- as may be, and no will is left to be done
abbrev pub vacant_index : ℕ → List Will → List (List ℕ × RoomSessions) → Option ℕ
vacant_index most [] rooms =
    if nat_le most (length rooms) then position (λ room. is_evictable room.1) rooms else None
vacant_index most (w ∷ wills) rooms = None

abbrev pub vacant_in : State → Option ℕ
vacant_in hub = vacant_index hub.config.rooms hub.wills hub.rooms

-- a revision above all of an evictable room; 0 for one that is at revision 0
abbrev pub above : RoomSessions → ℕ
above g = if revision g.room == 0 then 0 else revision g.room + 1

-- the revision at which a new room begins that replaces that one: no earlier one begins at a higher
-- one, and every revision above 0 of a room that was evicted is lower
abbrev pub floor_over : ℕ → Option (List ℕ × RoomSessions) → ℕ
floor_over floor (Some room) = max floor (above room.1)
floor_over floor None = floor

abbrev pub floor_at : Option ℕ → State → ℕ
floor_at index hub = floor_over hub.floor (option_and_then (slice_get hub.rooms) index)

-- another room is wanted, there are as many as may be, and none can be replaced now
abbrev pub is_crowded : Option ℕ → State → Bool
is_crowded index hub =
    not (is_some index) && nat_le hub.config.rooms (length hub.rooms)
    && not (is_some (vacant_in hub))

-- a room with its name, without its sessions
abbrev pub without_sessions : List ℕ × RoomSessions → List ℕ × Room
without_sessions r = (r.0, r.1.room)

-- A room of a hub: its index, its name, and what is stored there.
pub record RoomOf (hub : State) : Type 0 where
  pub index : ℕ
  pub name : List ℕ
  pub room_sessions : RoomSessions
  pub there : slice_get hub.rooms index ≡ Some (name, room_sessions)

-- each will has its room
abbrev pub HaveRooms : List (List ℕ × RoomSessions) → List Will → Type 0
HaveRooms rooms = AllByRecursion (λ w. w.room_index < length rooms)

-- Session s is open: its room, and the session in it.
pub record Home (hub : State) (s : ℕ) : Type 0 where
  pub room : RoomOf hub
  pub session : Session
  pub at : index_of hub s ≡ Some room.index
  pub is : session_in room.room_sessions.sessions s ≡ Some session

-- The invariant of each hub.
pub record IsHub (hub : State) : Type 0 where
  pub config : IsConfig hub.config
  -- the least revision at which a new room begins is a count
  pub floor : hub.floor ≤ MAX_COUNT
  -- no session has the next number or a later one
  pub below : (t : ℕ) → hub.next ≤ t → index_of hub t ≡ None
  -- an open session is in its room
  pub homes : (t index : ℕ) → index_of hub t ≡ Some index → Home hub t
  -- a session is in no room but its own
  pub members : (index : ℕ) (name : List ℕ) (g : RoomSessions)
      → slice_get hub.rooms index ≡ Some (name, g)
      → (t : ℕ) (x : Session) → session_in g.sessions t ≡ Some x → index_of hub t ≡ Some index
  -- and is there only once
  pub once : (index : ℕ) (name : List ℕ) (g : RoomSessions)
      → slice_get hub.rooms index ≡ Some (name, g) → EachOnce g.sessions
  -- sessions and wills together are within the limit of sessions
  pub few : length hub.homes + length hub.wills ≤ hub.config.sessions
  pub wills : HaveRooms hub.rooms hub.wills

-- how the logic stores a hub

abbrev pub room_sessions_code : Coded Change → Coded Session → Coded RoomSessions
room_sessions_code change session = code_by (Room × List Session)
    (coded× (state_code change) (coded_list session))
    (λ g. (g.room, g.sessions))
    (λ p. room_sessions p.0 p.1)
    (λ _. refl)

abbrev pub will_code : Coded Op → Coded Will
will_code op = code_by (ℕ × (ℕ × (ℕ × List Op)))
    (coded× coded_ℕ (coded× coded_ℕ (coded× coded_ℕ (coded_list op))))
    (λ w. (w.session, (w.number, (w.room_index, w.patch))))
    (λ p. record { session = p.0; number = p.1.0; room_index = p.1.1.0; patch = p.1.1.1 })
    (λ _. refl)

abbrev pub hub_code : Coded Change → Coded Op → Coded Session → Coded State
hub_code change op session =
    code_by (HubConfig × (ℕ × (ℕ × (List (List ℕ × RoomSessions) × (List (ℕ × ℕ) × List Will)))))
    (coded× config_code (coded× coded_ℕ (coded× coded_ℕ
    (coded× (coded_list (coded× (coded_list coded_ℕ) (room_sessions_code change session)))
    (coded× (coded_list (coded× coded_ℕ coded_ℕ)) (coded_list (will_code op)))))))
    (λ h. (h.config, (h.next, (h.floor, (h.rooms, (h.homes, h.wills))))))
    (λ p. record {
      config = p.0;
      next = p.1.0;
      floor = p.1.1.0;
      rooms = p.1.1.1.0;
      homes = p.1.1.1.1.0;
      wills = p.1.1.1.1.1;
    })
    (λ _. refl)

-- The answers of a hub for a session and of all sessions, the causes for which no hub can be made,
-- and the changes of a refused edit.
use Rattle.std.specs.Prelude.{ℕ, ◌≡◌, ◌≢◌, map, ◌<◌, ◌⊎◌, Bool, false, length, nat_lt, sum_by}
use Rattle.std.specs.Prelude.{Option, Some, None, option_map, option_and_then, List, Ok, Err}
use Rattle.relay_limits.specs.declared.TheConstants.{MAX_REVISIONS, MAX_WAITING_PATCHES, MAX_COUNT}
use Rattle.relay_limits.specs.declared.TheConstants.{MAX_ROOMS, MAX_SESSIONS}
use Rattle.relay_outbox.specs.declared.outbox.TheConstants.{MAX_REPLIES}
use Rattle.relay_patch.specs.declared.op.Op.{Op}
use Rattle.relay_proto.specs.Request.{request_of_text}
use Rattle.relay_proto.specs.declared.refusal.Refusal.{Refusal}
use Rattle.relay_proto.specs.declared.reply.Reply.{Reply}
use Rattle.relay_proto.specs.declared.request.Request.TheVariants.{Edit}
use Rattle.relay_room.specs.Edit.{edited}
use Rattle.relay_room.specs.Room.{State as Room, revision}
use Rattle.relay_room.specs.declared.fault.EditFault.{EditFault}
use Rattle.relay_tree.specs.Document.{Document}
use Rattle.relay_view.specs.View.{view}
use Rattle.relay_hub.specs.declared.config.HubConfig.{HubConfig}
use Rattle.relay_hub.specs.Admitted.{admitted}
use Rattle.relay_hub.specs.Load.{bounded_weight}
use Rattle.relay_hub.specs.Refusal.{refused, edit_refusal}
use Rattle.relay_hub.specs.Session.{Session, replied}
use Rattle.relay_hub.specs.State.{RoomSessions, State, home_of, session_in, session_of}
use Rattle.relay_hub.specs.State.{without_sessions}

-- one of the numbers of a configuration is no count, or out of its range
abbrev pub BadLimits : HubConfig → Type 0
BadLimits config =
    (MAX_COUNT < config.epoch) ⊎ (MAX_COUNT < config.first)
    ⊎ (config.history < 1) ⊎ (MAX_REVISIONS < config.history) ⊎ (config.max_waiting_patches < 1)
    ⊎ (MAX_WAITING_PATCHES < config.max_waiting_patches)
    ⊎ (config.rooms < 1) ⊎ (MAX_ROOMS < config.rooms) ⊎ (config.sessions < 1)
    ⊎ (MAX_SESSIONS < config.sessions)

-- the session is open, and a further reply may wait for it
abbrev pub may_hear : Option Session → Bool
may_hear (Some x) = nat_lt (length x.outbox.replies) MAX_REPLIES
may_hear None = false

-- how many replies wait for a session
abbrev pub replies : Session → ℕ
replies x = length x.outbox.replies

-- the session is open, and a snapshot is due for it
abbrev pub is_due : Option Session → Bool
is_due (Some x) = x.outbox.due
is_due None = false

-- the room of session s, and the session
abbrev pub room_and_session : State → ℕ → Option (Room × Session)
room_and_session hub s =
    option_and_then (λ home.
    option_map (λ x. (home.1.room, x)) (session_in home.1.sessions s)) (home_of hub s)

-- the present revision and the view of the present document, if the session watches a view
abbrev pub shown : Room → Session → Option (ℕ × Document)
shown room x = option_map (λ pointers. (revision room, view pointers room.document)) x.view

-- the same of session s, if it is open
abbrev pub truth : State → ℕ → Option (Option (ℕ × Document))
truth hub s =
    option_and_then (λ home.
    option_map (shown home.1.room) (session_in home.1.sessions s)) (home_of hub s)

-- what the patches weigh that wait for the sessions of a room; 0 if no bound was set
abbrev pub sessions_weight : List Session → ℕ
sessions_weight sessions = sum_by (λ x. bounded_weight x.budget x.outbox) sessions

-- the same of all rooms
abbrev pub rooms_weight : List (List ℕ × RoomSessions) → ℕ
rooms_weight rooms = sum_by (λ room. sessions_weight room.1.sessions) rooms

-- session s is y, and nothing else changed
pub record LeavesNoTrace (s : ℕ) (y : Session) (old new : State) : Type 0 where
  pub rooms : map without_sessions new.rooms ≡ map without_sessions old.rooms
  pub homes : new.homes ≡ old.homes
  pub wills : new.wills ≡ old.wills
  pub next : new.next ≡ old.next
  pub others : (t : ℕ) → s ≢ t → session_of new t ≡ session_of old t
  pub sender : session_of new s ≡ Some y

-- a refused edit of session s changes no room and no other session, and adds one reply to its own
pub record RefusesEdits (s : ℕ) (text : List ℕ) (old new : State) : Type 0 where
  -- refused when it is read, like any text that is no request, and like any edit of a session that
  -- only watches
  pub unread : (name : List ℕ) (g : RoomSessions) (x : Session) (r : Refusal)
      → home_of old s ≡ Some (name, g) → session_in g.sessions s ≡ Some x
      → admitted old.config.view_weight x.access (request_of_text text) ≡ Err r
      → LeavesNoTrace s (replied (refused r) x) old new
  -- refused by its room
  pub unmade : (name : List ℕ) (g : RoomSessions) (x : Session) (id : ℕ) (base : Option ℕ)
      (patch : List Op) (fault : EditFault)
      → home_of old s ≡ Some (name, g) → session_in g.sessions s ≡ Some x
      → admitted old.config.view_weight x.access (request_of_text text) ≡ Ok (Edit id base patch)
      → edited g.room base patch ≡ Err fault
      → (r : Reply) × (edit_refusal id fault ≡ Some r) × LeavesNoTrace s (replied r x) old new

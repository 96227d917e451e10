-- The wills of a hub, those that are noted as kept, and the changes that keep the others.
use Rattle.std.specs.Prelude.{◌≡◌, ℕ, ◌==◌, ◌&&◌, ◌-◌, ◌^◌, nat_eq, nat_lt, Bool, false, is_some}
use Rattle.std.specs.Prelude.{List, [], ◌∷◌, ◌++◌, map, find, Option, Some, None, slice_get}
use Rattle.std.specs.Prelude.{if◌then◌else◌}
use Rattle.std.specs.List.{flat_map}
use Rattle.std.specs.Map.{lookup}
use Rattle.std.specs.Option.{option_map_or, option_or}
use Rattle.relay_hub.specs.Log.{Bequest, left_in}
use Rattle.relay_hub.specs.Session.{Session}
use Rattle.relay_hub.specs.Stands.{named_will}
use Rattle.relay_hub.specs.State.{RoomSessions, State}
use Rattle.relay_proto.specs.Message.{will_request}
use Rattle.relay_store.specs.declared.change.Change.{Change}
use Rattle.relay_store.specs.declared.change.Change.TheVariants.{LeaveWill, DropWill}
use Rattle.relay_store.specs.Kept.{Kept, Will, committed}
use Rattle.relay_store.specs.Texts.{owned}
use Rattle.relay_tree.specs.Text.{text_of}
use Rattle.relay_keeping.specs.declared.found_wills.FoundWills.{FoundWills}
use Rattle.relay_keeping.specs.declared.found_wills.RoomWill.{RoomWill}

-- the will of a session that is open in the room of that name: none, if it is empty
abbrev pub open_will : List ℕ → Session → List Bequest
open_will name x = left_in x.number x.will_number name x.will

-- those of all sessions of a room
abbrev pub wills_in : List ℕ × RoomSessions → List Bequest
wills_in room = flat_map (open_will room.0) room.1.sessions

-- the wills of a hub: those that closed sessions left, which wait, and those of the open sessions
abbrev pub wills_of : State → List Bequest
wills_of hub = map (named_will hub.rooms) hub.wills ++ flat_map wills_in hub.rooms

-- the sessions of the room at an index
abbrev pub sessions_at : State → ℕ → List Session
sessions_at hub index = option_map_or (λ room. room.1.sessions) (slice_get hub.rooms index) []

-- the number of the will that a session has among these; if there are several, of the last
abbrev pub number_in : List Bequest → ℕ → Option ℕ
number_in [] session = None
number_in (will ∷ wills) session =
    option_or (number_in wills session) (if nat_eq will.session session then Some will.number
    else None)

-- the wills that are noted as kept: their sessions, with their numbers there
abbrev pub NotedWills : Type 0
NotedWills = List (ℕ × ℕ)

-- the number of the will that is noted of a session
abbrev pub noted_number : NotedWills → ℕ → Option ℕ
noted_number noted session = lookup (nat_eq session) noted

-- a will is the one that is noted of its session if it has the same number. That at the top of 64
-- bits may be any: there a session stops counting, and so the wills of an earlier run are noted
abbrev pub is_same_number : ℕ → Option ℕ → Bool
is_same_number number None = false
is_same_number number (Some noted) = nat_lt number (2 ^ 64 - 1) && (noted == number)

abbrev pub is_noted : NotedWills → Bequest → Bool
is_noted noted will = is_same_number will.number (noted_number noted will.session)

-- a will that is not noted is left
abbrev pub left_change : NotedWills → Bequest → List (Change (List ℕ))
left_change noted will =
    if is_noted noted will then []
    else LeaveWill will.session will.room (text_of (will_request will.patch)) ∷ []

-- a will that is noted is dropped, if its session has none any more
abbrev pub drop_change : List Bequest → ℕ × ℕ → List (Change (List ℕ))
drop_change wills noted = if is_some (number_in wills noted.0) then [] else DropWill noted.0 ∷ []

-- the changes that keep these wills, where those are noted
abbrev pub will_changes : NotedWills → List Bequest → List (Change (List ℕ))
will_changes noted wills = flat_map (drop_change wills) noted ++ flat_map (left_change noted) wills

-- these wills are noted, and no others
abbrev pub NotesWills : NotedWills → List Bequest → Type 0
NotesWills noted wills = (session : ℕ) → noted_number noted session ≡ number_in wills session

-- what is kept of wills is what was kept, and what these changes make of it
abbrev pub KeepsWills : NotedWills → List Bequest → (old new : Kept) → Type 0
KeepsWills noted wills old new = new.wills ≡ (committed old (will_changes noted wills)).wills

-- the will that is kept of a session
abbrev pub kept_of : ℕ → List Will → Option Will
kept_of session wills = find (λ will. nat_eq will.session session) wills

-- each will that is kept is noted
abbrev pub AreAllNoted : NotedWills → Kept → Type 0
AreAllNoted noted kept = (session : ℕ) → noted_number noted session ≡ None
    → kept_of session kept.wills ≡ None

-- a will is kept only of a session that has one of these
abbrev pub KeepsOnly : List Bequest → Kept → Type 0
KeepsOnly wills kept = (session : ℕ) → number_in wills session ≡ None
    → kept_of session kept.wills ≡ None

-- a will as a round finds it
abbrev pub bequest_of : RoomWill → Bequest
bequest_of will = record {
  session = will.session;
  number = will.number;
  room = will.room.now;
  patch = will.patch.now;
}

-- these wills are found besides those that were found before
pub record Finds (noted : NotedWills) (wills : List Bequest) (old new : FoundWills) : Type 0 where
  pub numbers : (session : ℕ) → noted_number new.numbers.entries session
      ≡ option_or (number_in wills session) (noted_number old.numbers.entries session)
  pub changes : map owned new.changes.items
      ≡ map owned old.changes.items ++ flat_map (left_change noted) wills

-- these wills are found, and the changes that keep them
pub record HasFound (noted : NotedWills) (wills : List Bequest) (found : FoundWills) : Type 0 where
  pub numbers : NotesWills found.numbers.entries wills
  pub changes : map owned found.changes.items ≡ will_changes noted wills

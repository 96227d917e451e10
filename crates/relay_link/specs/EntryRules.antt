-- The rules by which good handshakes are judged, and what those are told who may not enter.
use Rattle.std.specs.Prelude.{◌≡◌, ℕ, List, Bool, true, false, not, ◌||◌, Option, Some, None}
use Rattle.std.specs.Prelude.{bytes_eq, string_bytes, is_some, if◌then◌else◌, length, ◌==◌}
use Rattle.std.specs.Global.{Global}
use Rattle.std.specs.declared.string.String.{String}
use Rattle.std.specs.List.{list_any}
use Rattle.relay_access.specs.declared.access.Access.{Access}
use Rattle.relay_access.specs.declared.access.Access.TheVariants.{ReadOnly, ReadWrite}
use Rattle.relay_hub.specs.State.{State}
use Rattle.relay_hub.specs.Summary.{room_named}
use Rattle.relay_shake.specs.Replies.{closed_refusal, refusal_of}
use Rattle.relay_link.specs.Entrance.{lets_in}
use Rattle.relay_link.specs.Follows.{Rooms}
use Rattle.relay_link.specs.declared.entry_rules.EntryRules.{EntryRules}
use Rattle.relay_link.specs.declared.entry_rules.Watchers.{Watchers}
use Rattle.relay_link.specs.declared.entry_rules.Watchers.TheVariants.{Begin, Join, Wait}
use Rattle.relay_link.specs.declared.entry_rules.Denial.{Denial}
use Rattle.relay_link.specs.declared.entry_rules.Denial.TheVariants.{Origin, Closed, NoRoom, Full}

-- whether pages of an origin may enter, or whoever names none
abbrev pub admits_origin : List (String Global) → Option (List ℕ) → Bool
admits_origin names None = true
admits_origin names (Some origin) =
    (length names == 0) || list_any (λ name. bytes_eq (string_bytes name) origin) names

-- whether a room of a name is there
abbrev pub is_there : State → List ℕ → Bool
is_there hub room = is_some (room_named room hub.rooms)

-- why a session that only watches is not opened, by whether its room is there
abbrev pub watching : Watchers → Bool → Option Denial
watching Begin there = None
watching Join true = None
watching Join false = Some NoRoom
watching Wait true = Some Full
watching Wait false = Some NoRoom

abbrev pub entering : EntryRules → State → List ℕ → Access → Option Denial
entering rules hub room ReadWrite = None
entering rules hub room ReadOnly = watching rules.watchers (is_there hub room)

-- why a good handshake opens no session in a room, before the hub is asked for one
abbrev pub denial : EntryRules → State → List ℕ → Access → Option (List ℕ) → Option Denial
denial rules hub room access origin =
    if not (admits_origin rules.origins.items origin) then Some Origin
    else if not (lets_in rules.entrance room) then Some Closed
    else entering rules hub room access

-- the status and the bytes of the reply
abbrev pub status_of : Denial → ℕ
status_of Origin = 403
status_of Closed = 503
status_of NoRoom = 404
status_of Full = 503

abbrev pub reply_to : Denial → List ℕ
reply_to Closed = closed_refusal
reply_to Origin = refusal_of 403
reply_to NoRoom = refusal_of 404
reply_to Full = refusal_of 503

-- why good handshakes open no session, by the room that they ask for, the access and the origin
abbrev pub Denials : Type 0
Denials = List ℕ → Access → Option (List ℕ) → Option Denial

abbrev pub none_denied : Denials
none_denied room access origin = None

-- the rooms in which a session may be opened by the rules, and with which access
abbrev pub Within : EntryRules → State → Rooms
Within rules hub room access =
    (lets_in rules.entrance room ≡ true) × (entering rules hub room access ≡ None)

-- The faults of creating a room.
use Rattle.std.specs.Prelude.{ℕ, Option, Some, None, ◌||◌, nat_lt, if◌then◌else◌}
use Rattle.relay_tree.specs.Document.{Document, depth, weight}
use Rattle.relay_patch.specs.declared.bounds.TheConstants.Bounds.{DOCUMENT}
use Rattle.relay_history.specs.declared.fault.HistoryFault.{HistoryFault}
use Rattle.relay_history.specs.declared.fault.HistoryFault.TheVariants as history
use Rattle.relay_history.specs.declared.history.TheConstants.{LAST_REVISION}
use Rattle.relay_limits.specs.declared.TheConstants.{MAX_REVISIONS}
use Rattle.relay_room.specs.declared.fault.RoomFault.{RoomFault}
use Rattle.relay_room.specs.declared.fault.RoomFault.TheVariants as room

-- the fault of a history as the fault of its room
abbrev pub of_history : HistoryFault → RoomFault
of_history history.BadLimit = room.BadLimit
of_history history.NoMemory = room.NoMemory

-- the first limit that a new room would exceed, if any
abbrev pub room_fault : Document → ℕ → ℕ → Option RoomFault
room_fault document rev limit =
    if nat_lt DOCUMENT.depth (depth document) then Some room.TooDeep
    else (if nat_lt DOCUMENT.weight (weight document) then Some room.TooHeavy
    else (if nat_lt LAST_REVISION rev then Some room.BadRevision
    else (if nat_lt limit 1 || nat_lt MAX_REVISIONS limit then Some room.BadLimit
    else None)))

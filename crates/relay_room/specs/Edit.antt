-- The effect of an edit on a room. Defined once here: the room keeps it, and the contracts of the
-- hub and of its log cite it.
use Rattle.std.specs.Prelude.{◌≡◌, ◌≢◌, ◌==◌, ℕ, Bool, true, List, Option, Some, None, Result, Ok}
use Rattle.std.specs.Prelude.{Err, nat_lt, if◌then◌else◌}
use Rattle.relay_tree.specs.Document.{Document}
use Rattle.relay_patch.specs.declared.bounds.TheConstants.Bounds.{DOCUMENT}
use Rattle.relay_patch.specs.declared.fault.ApplyFault.{ApplyFault}
use Rattle.relay_patch.specs.declared.fault.Cause.TheVariants.{NoMemory}
use Rattle.relay_patch.specs.declared.op.Op.{Op}
use Rattle.relay_patch.specs.After.{after, Reaches}
use Rattle.relay_history.specs.declared.history.TheConstants.{LAST_REVISION}
use Rattle.relay_room.specs.Room.{State, revision}
use Rattle.relay_room.specs.declared.fault.EditFault.{EditFault}
use Rattle.relay_room.specs.declared.fault.EditFault.TheVariants.{Exhausted, Stale, Apply}

-- the result of a patch as the result of an edit
abbrev pub applied : Result Document ApplyFault → Result Document EditFault
applied (Ok d) = Ok d
applied (Err fault) = Err (Apply fault)

-- an edit with a base is for that revision only; one without is for every revision
abbrev pub is_for : Option ℕ → ℕ → Bool
is_for (Some base) rev = base == rev
is_for None rev = true

-- the document that an edit makes of d, the document of revision rev, or the first fault: rev is
-- the last revision, the edit is for another revision, or the patch is refused (RFC 6902, section
-- 5)
abbrev pub edited_at : ℕ → Document → Option ℕ → List Op → Result Document EditFault
edited_at rev d base patch =
    if nat_lt rev LAST_REVISION
    then (if is_for base rev then applied (after d patch DOCUMENT) else Err (Stale rev))
    else Err Exhausted

-- the document that an edit makes in a room, or the first fault
abbrev pub edited : State → Option ℕ → List Op → Result Document EditFault
edited room base patch = edited_at (revision room) room.document base patch

-- the fault of an edit is the one that the definition gives; or memory ran out, and the edit is for
-- the present revision and its operations before the fault's place passed
abbrev pub Refuses : State → Option ℕ → List Op → EditFault → Type 0
Refuses room base patch Exhausted = edited room base patch ≡ Err Exhausted
Refuses room base patch (Stale present) = edited room base patch ≡ Err (Stale present)
Refuses room base patch (Apply fault) =
    (fault.cause ≢ NoMemory → edited room base patch ≡ Err (Apply fault))
    × (fault.cause ≡ NoMemory
    → (is_for base (revision room) ≡ true) × Reaches room.document patch DOCUMENT fault.at)

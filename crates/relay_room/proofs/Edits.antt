-- The result of an edit, from the result of its patch.
use Rattle.std.proofs.Common.{◌≡◌, ◌<◌, ℕ, Bool, true, false, List, Option, Result, Ok, Err, refl}
use Rattle.std.proofs.Common.{arith, nat_lt, if◌then◌else◌}
use Rattle.std.proofs.lemmas.Bool.Decides.{nat_tests}
use Rattle.relay_tree.specs.Document.{Document}
use Rattle.relay_patch.specs.declared.bounds.TheConstants.Bounds.{DOCUMENT}
use Rattle.relay_patch.specs.declared.fault.ApplyFault.{ApplyFault}
use Rattle.relay_patch.specs.declared.op.Op.{Op}
use Rattle.relay_patch.specs.After.{after}
use Rattle.relay_history.specs.declared.history.TheConstants.{LAST_REVISION}
use Rattle.relay_room.specs.Edit.{applied, edited, is_for}
use Rattle.relay_room.specs.Room.{State, revision}
use Rattle.relay_room.specs.declared.fault.EditFault.TheVariants.{Exhausted, Stale, Apply}

-- an edit for the present revision, below the last one, has the result of its patch
pub edited_below : (room : State) (base : Option ℕ) (patch : List Op)
    → revision room < LAST_REVISION → is_for base (revision room) ≡ true
    → edited room base patch ≡ applied (after room.document patch DOCUMENT)
edited_below room base patch below for =
    let more : nat_lt (revision room) LAST_REVISION ≡ true = grind (arith, nat_tests, below) in
    rw more (rw for refl)

-- a stale edit is refused with the present revision
pub stale_present : (room : State) (base : Option ℕ) (patch : List Op) (present : ℕ)
    → edited room base patch ≡ Err (Stale present) → present ≡ revision room
stale_present room base patch present h =
    go (nat_lt (revision room) LAST_REVISION) (is_for base (revision room))
    (after room.document patch DOCUMENT) h
  where
    go : (more for : Bool) (r : Result Document ApplyFault)
        → (if more then (if for then applied r else Err (Stale (revision room)))
        else Err Exhausted) ≡ Err (Stale present) → present ≡ revision room
    go true true (Ok d) same = absurd (cc same)
    go true true (Err found) same = absurd (cc same)
    go true false r same = cc
    go false for r same = absurd (cc same)

-- an edit whose patch is refused
pub edited_refused : (room : State) (base : Option ℕ) (patch : List Op) (fault : ApplyFault)
    → edited room base patch ≡ Err (Apply fault) → after room.document patch DOCUMENT ≡ Err fault
edited_refused room base patch fault h =
    go (nat_lt (revision room) LAST_REVISION) (is_for base (revision room))
    (after room.document patch DOCUMENT) h
  where
    go : (more for : Bool) (r : Result Document ApplyFault)
        → (if more then (if for then applied r else Err (Stale (revision room)))
        else Err Exhausted) ≡ Err (Apply fault) → r ≡ Err fault
    go true true (Ok d) same = absurd (cc same)
    go true true (Err found) same = cc
    go true false r same = absurd (cc same)
    go false for r same = absurd (cc same)

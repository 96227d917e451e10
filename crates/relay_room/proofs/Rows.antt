-- The definitions computed for a room that holds the last two of five revisions, for limits that
-- are exceeded, and for edits with a base.
use Rattle.std.specs.Prelude.{◌≡◌, ◌+◌, List, [], ◌∷◌, Some, None, Ok, Err, true, false, refl}
use Rattle.std.specs.Prelude.{codes}
use Rattle.relay_tree.specs.Document.{null, truth, list, object, no_items, item, no_members, member}
use Rattle.relay_pointer.specs.Index.{index_text}
use Rattle.relay_pointer.specs.Path.{Path}
use Rattle.relay_view.specs.View.{View}
use Rattle.relay_view.specs.declared.slot.SlotKind.TheVariants.{Value}
use Rattle.relay_patch.specs.declared.op.Op.TheVariants.{Remove, Replace}
use Rattle.relay_patch.specs.declared.change.Change.{Change}
use Rattle.relay_patch.specs.declared.change.Change.TheVariants.{Set}
use Rattle.relay_history.specs.History as history
use Rattle.relay_history.specs.declared.history.TheConstants.{LAST_REVISION}
use Rattle.relay_limits.specs.declared.TheConstants.{MAX_REVISIONS}
use Rattle.relay_history.specs.History.{with_revision}
use Rattle.relay_room.specs.Room.{State}
use Rattle.relay_room.specs.Fault.{room_fault}
use Rattle.relay_room.specs.CatchUp.{caught_up}
use Rattle.relay_room.specs.Edit.{edited_at}
use Rattle.relay_room.specs.declared.fault.EditFault.TheVariants.{Exhausted, Stale}
use Rattle.relay_room.specs.declared.fault.RoomFault.TheVariants.{BadRevision, BadLimit}
use Rattle.relay_room.specs.declared.catch_up.CatchUp.TheVariants.{Nothing, Patch, Snapshot}

revision_is_no_count : room_fault null (LAST_REVISION + 1) 0 ≡ Some BadRevision
revision_is_no_count = refl

holds_nothing : room_fault null LAST_REVISION 0 ≡ Some BadLimit
holds_nothing = refl

holds_too_much : room_fault null 0 (MAX_REVISIONS + 1) ≡ Some BadLimit
holds_too_much = refl

last_revision : room_fault null LAST_REVISION 1 ≡ None
last_revision = refl

n : Path
n = codes "n" ∷ []

m : Path
m = codes "m" ∷ []

-- the view of the value at a path
abbrev seen : Path → View
seen q = record { pointer = q; kind = Value } ∷ []

module _ (a b c : List Change) where
  five : State
  five = record {
    document = object (member (codes "n") (truth true) no_members);
    history =
        with_revision (Set n (truth true) ∷ [])
        (with_revision (Set n (truth false) ∷ [])
        (with_revision c (with_revision b (with_revision a (history.begun 2 0)))));
  }

  from_5 : caught_up five 5 (seen n) ≡ Nothing
  unfolding five n index_text
  from_5 = refl

  from_3 : caught_up five 3 (seen n)
      ≡ Patch (Replace (codes "0" ∷ []) (list (item (truth true) no_items)) ∷ [])
  unfolding five n index_text
  from_3 = refl

  from_3_elsewhere : caught_up five 3 (seen m) ≡ Nothing
  unfolding five n m
  from_3_elsewhere = refl

  from_2 : caught_up five 2 (seen m) ≡ Snapshot
  unfolding five
  from_2 = refl

-- an edit for a revision other than the present one is stale, whatever its patch is; one for the
-- present revision, or without a base, is done; and one in a room at its last revision is exhausted
-- before that

stale_below : edited_at 2 null (Some 1) (Remove [] ∷ []) ≡ Err (Stale 2)
stale_below = refl

stale_above : edited_at 2 null (Some 3) [] ≡ Err (Stale 2)
stale_above = refl

for_the_present : edited_at 2 null (Some 2) [] ≡ Ok null
for_the_present = refl

for_none : edited_at 2 null None [] ≡ Ok null
for_none = refl

exhausted_first : edited_at LAST_REVISION null (Some 0) [] ≡ Err Exhausted
exhausted_first = refl

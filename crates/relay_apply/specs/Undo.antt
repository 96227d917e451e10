-- Changes are taken back: a replaced part is put back, an inserted value is dropped, a removed one
-- is reinserted, a transferred one is removed from where it was put and reinserted where it was
-- before, and an element that slid within its list slides back.
use Rattle.std.specs.Prelude.{ℕ, List, [], ◌∷◌, Option, Some, None, option_map, option_and_then}
use Rattle.std.specs.Prelude.{Result, Ok, Err, nat_lt, if◌then◌else◌, vec_capacity, string_bytes}
use Rattle.std.specs.Result.{result_ok}
use Rattle.relay_tree.specs.Document.{Document, list, object, Items}
use Rattle.relay_tree.specs.Part.{items_length, item_at, insert_item, drop_item, members_length}
use Rattle.relay_tree.specs.Part.{add_member}
use Rattle.relay_pointer.specs.Index.{Token}
use Rattle.relay_pointer.specs.Path.{Path, at, put}
use Rattle.relay_patch.specs.declared.fault.Cause.{Cause}
use Rattle.relay_patch.specs.Patch.{at_path, drop_child}
use Rattle.relay_patch.specs.declared.change.Change.{Change}
use Rattle.relay_apply.specs.declared.reinsertion.Reinsertion.{Reinsertion}
use Rattle.relay_apply.specs.declared.reinsertion.Reinsertion.TheVariants as reinsertion
use Rattle.relay_apply.specs.declared.undo.Undo.{Undo}
use Rattle.relay_apply.specs.declared.undo.Undo.TheVariants as undo
use Rattle.relay_patch.specs.declared.change.Change.TheVariants as change

-- the path at which a change puts its value, if that is all that it does
abbrev pub target : Change → Option Path
target (change.Set path v) = Some path
target (change.AddMember path v) = Some path
target (change.AddItem path v) = Some path
target (change.DropMember path) = None
target (change.DropItem path) = None
target (change.Move from to v) = None
target (change.Copy from to v) = Some to.path

-- what takes back that a value was put at the path, given the part that the value replaced
abbrev pub undo_of_put : Path → Option Document → Undo
undo_of_put path (Some part) = undo.Part path part
undo_of_put path None = undo.Inserted path

-- the part that the change removed or replaced; of a transfer, what the moved value replaced
abbrev pub removed_part : Undo → Option Document
removed_part (undo.Part path part) = Some part
removed_part (undo.Inserted path) = None
removed_part (undo.Removed gone) = Some gone.value
removed_part (undo.Transferred r path part) = part
removed_part (undo.Slid path i j) = None

abbrev pub or_same : Result Document Cause → Document → Document
or_same (Ok e) d = e
or_same (Err cause) d = d

abbrev pub or_items : Option Items → Items → Items
or_items (Some es) ds = es
or_items None ds = ds

-- the elements with e inserted at the index, if one more fits into `capacity` and the index is not
-- past the end; otherwise unchanged
abbrev pub reinserted_items : ℕ → ℕ → Document → Items → Items
reinserted_items capacity i e ds =
    if nat_lt (items_length ds) capacity then or_items (insert_item ds i e) ds else ds

-- the same of a list; any other document is unchanged
abbrev pub reinserted_item : ℕ → ℕ → Document → Document → Document
reinserted_item capacity i e (list ds) = list (reinserted_items capacity i e ds)
reinserted_item capacity i e d = d

-- the object with v under a name that it lacks, if one more fits into `capacity`; otherwise
-- unchanged
abbrev pub reinserted_member : ℕ → Token → Document → Document → Document
reinserted_member capacity name v (object ms) =
    object (if nat_lt (members_length ms) capacity then add_member ms name v else ms)
reinserted_member capacity name v d = d

-- the elements with the one at index i removed and inserted at index j of the others; unchanged if
-- either index is past the end
abbrev pub slid_items : ℕ → ℕ → Items → Items
slid_items i j ds =
    or_items (option_and_then (λ e.
    option_and_then (λ es. insert_item es j e) (drop_item ds i)) (item_at ds i)) ds

abbrev pub slid : ℕ → ℕ → Document → Document
slid i j (list ds) = list (slid_items i j ds)
slid i j d = d

-- the document with its part at the path changed, if it has one
abbrev pub with_part : (Document → Document) → Path → Option Document → Document → Document
with_part change path (Some c) d = put d path (change c)
with_part change path None d = d

-- the document with a removed value put back
abbrev pub reinserted : Reinsertion → Document → Document → Document
reinserted (reinsertion.Item path i e spare) v d =
    with_part (reinserted_item (vec_capacity spare) i v) path (at d path) d
reinserted (reinsertion.Member path name spare) v d =
    with_part (reinserted_member spare.capacity (string_bytes name) v) path (at d path) d

-- the value at a path, and the document with the part there that it replaced, or without it if it
-- replaced none
abbrev pub put_undone : Option Document → Path → Document → Option (Document × Document)
put_undone (Some part) path d = option_map (λ v. (v, put d path part)) (at d path)
put_undone None path d =
    option_and_then (λ e.
    option_map (λ v. (v, e)) (at d path)) (result_ok (at_path drop_child path d))

-- the document in which the value that was taken from its new place is put back
abbrev pub transfer_undone : Reinsertion → Option (Document × Document) → Document → Document
transfer_undone r (Some p) d = reinserted r p.0 p.1
transfer_undone r None d = d

-- the document before the change that the record takes back
abbrev pub undone : Undo → Document → Document
undone (undo.Part path part) d = put d path part
undone (undo.Inserted path) d = or_same (at_path drop_child path d) d
undone (undo.Removed gone) d = reinserted gone.reinsertion gone.value d
undone (undo.Transferred r path part) d = transfer_undone r (put_undone part path d) d
undone (undo.Slid path i j) d = with_part (slid i j) path (at d path) d

-- the document before the changes that the records take back, of which the last goes first
abbrev pub taken_back : Document → List Undo → Document
taken_back d [] = d
taken_back d (k ∷ kept) = undone k (taken_back d kept)

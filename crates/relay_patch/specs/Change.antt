-- The changes that accepted operations make, and their places.
use Rattle.std.specs.Prelude.{ℕ, List, [], ◌∷◌, ◌++◌, Bool, true, false, Option, Some, None, Result}
use Rattle.std.specs.Prelude.{Ok, Err, ◌≡◌, if◌then◌else◌, is_some}
use Rattle.std.specs.Result.{result_ok}
use Rattle.relay_tree.specs.Document.{Document, list, object}
use Rattle.relay_pointer.specs.Index.{Token, index_of}
use Rattle.relay_pointer.specs.Path.{Path, at, is_proper_prefix, same_path}
use Rattle.relay_patch.specs.Walk.{Cause, NotIndex, NoContainer, walk}
use Rattle.relay_patch.specs.Place.{Place, place_of}
use Rattle.relay_patch.specs.Patch.{Op, effect, Act, insert_child, drop_child, at_path, replaced}
pub use Rattle.relay_patch.specs.declared.change.Change.{Change}
use Rattle.relay_patch.specs.declared.change.Change.TheVariants as change
use Rattle.relay_patch.specs.declared.op.Op.TheVariants as op

-- Acts in one kind of container.

abbrev pub at_element : Act → Token → Document → Option ℕ → Result Document Cause
at_element act t d None = Err NotIndex
at_element act t d (Some i) = act t d

-- an act on a list, at an index
abbrev pub in_list : Act → Act
in_list act t (list ds) = at_element act t (list ds) (index_of t)
in_list act t _ = Err NoContainer

-- an act on an object
abbrev pub in_object : Act → Act
in_object act t (object ms) = act t (object ms)
in_object act t _ = Err NoContainer

-- an act in a list if the place is an item, and in an object otherwise
abbrev pub placed : Bool → Act → Act
placed true act = in_list act
placed false act = in_object act

-- the document without the part at the place
abbrev pub dropped : Place → Document → Result Document Cause
dropped place d = at_path (placed place.item drop_child) place.path d

-- the document with a value inserted at the place; at the root it is the value
abbrev pub inserted_at : Bool → Path → Document → Document → Result Document Cause
inserted_at true path v d = at_path (in_list (insert_child v)) path d
inserted_at false [] v d = Ok v
inserted_at false (t ∷ path) v d = at_path (in_object (insert_child v)) (t ∷ path) d

abbrev pub inserted : Place → Document → Document → Result Document Cause
inserted place v d = inserted_at place.item place.path v d

-- The document that a change makes of another.

-- v moves from one place to another, which takes the document d to d'
pub record Moves (d : Document) (from to : Place) (v : Document) (d' : Document) : Type 0 where
  pub elsewhere : same_path from.path to.path ≡ false
  pub outside : is_proper_prefix from.path to.path ≡ false
  pub there : walk d from.path ≡ Ok v
  pub between : Document
  pub went : dropped from d ≡ Ok between
  pub came : inserted to v between ≡ Ok d'

-- the change takes the document d to d'
abbrev pub Makes : Document → Change → Document → Type 0
Makes d (change.Set path v) d' = replaced path v d ≡ Ok d'
Makes d (change.AddMember path v) d' =
    (at d path ≡ None) × (at_path (in_object (insert_child v)) path d ≡ Ok d')
Makes d (change.AddItem path v) d' = at_path (in_list (insert_child v)) path d ≡ Ok d'
Makes d (change.DropMember path) d' = at_path (in_object drop_child) path d ≡ Ok d'
Makes d (change.DropItem path) d' = at_path (in_list drop_child) path d ≡ Ok d'
Makes d (change.Move from to v) d' = Moves d from to v d'
Makes d (change.Copy from to v) d' = (walk d from ≡ Ok v) × (inserted to v d ≡ Ok d')

-- the changes, one after the other, take d to d'
abbrev pub Leads : Document → List Change → Document → Type 0
Leads d [] d' = d ≡ d'
Leads d (c ∷ cs) d' = (e : Document) × Makes d c e × Leads e cs d'

-- The changes that an accepted operation makes: one at most.

abbrev pub added_change : Document → Path → Place → Document → Change
added_change d path place v =
    if place.item then change.AddItem place.path v
    else (if is_some (at d path) then change.Set path v else change.AddMember path v)

abbrev pub removed_change : Place → Change
removed_change place =
    if place.item then change.DropItem place.path else change.DropMember place.path

-- a move to its own place changes nothing
abbrev pub moved_change : Place → Place → Document → List Change
moved_change from to v = if same_path from.path to.path then [] else change.Move from to v ∷ []

-- the new place of a moved value is a place in the document without that value
abbrev pub moved_changes : Place → Path → Option Document → Option Document → List Change
moved_changes from path (Some v) (Some e) = moved_change from (place_of e path) v
moved_changes from path _ _ = []

abbrev pub copied_changes : Path → Place → Option Document → List Change
copied_changes from to None = []
copied_changes from to (Some v) = change.Copy from to v ∷ []

abbrev pub changes_of : Document → Op → List Change
changes_of d (op.Add path v) = added_change d path (place_of d path) v ∷ []
changes_of d (op.Remove path) = removed_change (place_of d path) ∷ []
changes_of d (op.Replace path v) = change.Set path v ∷ []
changes_of d (op.Move from path) =
    moved_changes (place_of d from) path (at d from) (result_ok (at_path drop_child from d))
changes_of d (op.Copy from path) = copied_changes from (place_of d path) (at d from)
changes_of d (op.Test path v) = []

abbrev pub go_on_changes : Result Document Cause → (Document → List Change) → List Change
go_on_changes (Ok d) f = f d
go_on_changes (Err e) f = []

-- the changes of an accepted list of operations, in order
abbrev pub all_changes : Document → List Op → List Change
all_changes d [] = []
all_changes d (op ∷ ops) = changes_of d op ++ go_on_changes (effect d op) (λ e. all_changes e ops)

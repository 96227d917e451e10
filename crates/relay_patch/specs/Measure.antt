-- The depth and the weight that a change adds to a document, and those that it removes.
use Rattle.std.specs.Prelude.{ℕ, ◌+◌, ◌-◌, ◌^◌, ◌<◌, ◌≡◌, [], ◌∷◌, Bool, false, not, Option, Some}
use Rattle.std.specs.Prelude.{None, option_and_then, Result, Ok, Err, length, if◌then◌else◌}
use Rattle.std.specs.Bool.{⊤}
use Rattle.std.specs.Result.{result_ok}
use Rattle.relay_tree.specs.Document.{Document, depth, weight}
use Rattle.relay_pointer.specs.Path.{Path, at}
use Rattle.relay_patch.specs.Walk.{Cause, TooDeep, TooHeavy}
use Rattle.relay_patch.specs.Place.{Place, last, in_one_list}
use Rattle.relay_patch.specs.Patch.{Bounds, at_path, drop_child, exceeds, within}
use Rattle.relay_patch.specs.Change.{Change, Makes}
use Rattle.relay_patch.specs.declared.change.Change.TheVariants as change

-- the level that the value added by a change reaches: the length of its path plus its depth; 0 if
-- none is added
abbrev pub reach : Change → ℕ
reach (change.Set path v) = length path + depth v
reach (change.AddMember path v) = length path + depth v
reach (change.AddItem path v) = length path + depth v
reach (change.DropMember path) = 0
reach (change.DropItem path) = 0
reach (change.Move from to v) = length to.path + depth v
reach (change.Copy from to v) = length to.path + depth v

-- the value that is replaced when one is put at the place; none in a list, where an element is
-- inserted beside the others
abbrev pub displaced : Place → Document → Option Document
displaced place d = if place.item then None else at d place.path

-- the value that a change removes or replaces; for a move, the value that the moved one replaces
abbrev pub gone : Document → Change → Option Document
gone d (change.Set path v) = at d path
gone d (change.AddMember path v) = None
gone d (change.AddItem path v) = None
gone d (change.DropMember path) = at d path
gone d (change.DropItem path) = at d path
gone d (change.Move from to v) =
    option_and_then (displaced to) (result_ok (at_path drop_child from.path d))
gone d (change.Copy from to v) = displaced to d

-- whether a change is a transfer: it removes a value and inserts it elsewhere, as any move does
-- except one within a list
abbrev pub is_transfer : Change → Bool
is_transfer (change.Move from to v) = not (in_one_list from to)
is_transfer _ = false

abbrev pub part_weight : Option Document → ℕ
part_weight None = 0
part_weight (Some d) = weight d

-- the number of bytes of a path's last token; 0 for the root
abbrev pub name_weight : Path → ℕ
name_weight [] = 0
name_weight (t ∷ path) = length (last t path)

-- the weight of the member name at the place; 0 for an element, which has no name
abbrev pub place_weight : Place → ℕ
place_weight place = if place.item then 0 else name_weight place.path

-- the weight of a name of n bytes that is added with a value; 0 if a value was there before, whose
-- name stays
abbrev pub new_name : ℕ → Option Document → ℕ
new_name n None = n
new_name n (Some d) = 0

-- the weight that a change removes
abbrev pub lost : Change → Option Document → ℕ
lost (change.DropMember path) went = part_weight went + name_weight path
lost (change.Move from to v) went = part_weight went + place_weight from
lost _ went = part_weight went

-- the weight that a change adds
abbrev pub gained : Change → Option Document → ℕ
gained (change.Set path v) went = weight v
gained (change.AddMember path v) went = weight v + name_weight path
gained (change.AddItem path v) went = weight v
gained (change.DropMember path) went = 0
gained (change.DropItem path) went = 0
gained (change.Move from to v) went = new_name (place_weight to) went
gained (change.Copy from to v) went = weight v + new_name (place_weight to) went

-- the weight n of a document after a change, if first the level that the change reaches and then n
-- are within their bounds
abbrev pub judged : Bounds → Change → ℕ → Result ℕ Cause
judged bounds c n =
    if exceeds bounds.depth (reach c) then Err TooDeep
    else (if exceeds bounds.weight n then Err TooHeavy else Ok n)

-- what is known of a document: nothing, or that it is within the bounds and, if its weight is
-- bounded, that it weighs n
abbrev pub Known : Bounds → Document → Option ℕ → Type 0
Known bounds d None = ⊤
Known bounds d (Some n) = (within bounds d ≡ Ok d) × (bounds.weight < 2 ^ 64 - 1 → n ≡ weight d)

-- the change c took a document, of which this much is known, to d, and `went` is the value that it
-- removed or replaced
pub record Became (bounds : Bounds) (known : Option ℕ) (c : Change) (went : Option Document)
    (d : Document) : Type 0 where
  pub before : Document
  pub made : Makes before c d
  pub took : went ≡ gone before c
  pub was : Known bounds before known

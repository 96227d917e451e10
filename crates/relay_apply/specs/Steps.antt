-- Definitions by which the functions of this crate state what their steps do.
use Rattle.std.specs.Prelude.{ℕ, List, [], ◌∷◌, ◌++◌, Bool, true, false, Option, Some, None, Result}
use Rattle.std.specs.Prelude.{Ok, Err, is_some, ◌≡◌, ◌≢◌, IsOk, ◌⊎◌, if◌then◌else◌, nat_le, nat_lt}
use Rattle.std.specs.Prelude.{◌+◌, ◌==◌, ◌&&◌, ◌||◌, bytes_eq}
use Rattle.relay_tree.specs.Document.{Document, list, object, weight}
use Rattle.relay_tree.specs.Part.{items_length, member_at}
use Rattle.relay_tree.specs.Budget.{paid}
use Rattle.relay_tree.specs.declared.budget.Budget.{Budget}
use Rattle.relay_pointer.specs.Index.{Token, index_of, index_text}
use Rattle.relay_pointer.specs.Path.{Path}
use Rattle.relay_patch.specs.Walk.{then_do, is_dash, step, walk}
use Rattle.relay_patch.specs.declared.fault.Cause.{Cause}
use Rattle.relay_patch.specs.declared.fault.Cause.TheVariants.{NotIndex, PastEnd, NoContainer, Root}
use Rattle.relay_patch.specs.declared.fault.Cause.TheVariants.{NoMemory, TooHeavy}
use Rattle.relay_patch.specs.Place.{parent, last}
use Rattle.relay_patch.specs.declared.change.Place.{Place}
use Rattle.relay_patch.specs.Patch.{effect}
use Rattle.relay_patch.specs.declared.op.Op.{Op}
use Rattle.relay_patch.specs.Change.{changes_of}
use Rattle.relay_patch.specs.declared.change.Change.{Change}
use Rattle.relay_patch.specs.Weight.{changes_weight}
use Rattle.relay_patch.specs.declared.change.Change.TheVariants as change
pub use Rattle.relay_apply.specs.declared.insert_target.InsertTarget.{InsertTarget}
use Rattle.relay_apply.specs.declared.insert_target.InsertTarget.TheVariants as insert_target

abbrev pub index_within : ℕ → Option ℕ → Result ℕ Cause
index_within n None = Err NotIndex
index_within n (Some i) = if nat_le i n then Ok i else Err PastEnd

-- the index at which a token inserts into a list of n elements
abbrev pub insertion_index : ℕ → Token → Result ℕ Cause
insertion_index n t = if is_dash t then Ok n else index_within n (index_of t)

-- where a token inserts in a container
abbrev pub resolve_insert_in : Document → Token → Result InsertTarget Cause
resolve_insert_in (list ds) t =
    then_do (insertion_index (items_length ds) t) (λ i. Ok (insert_target.Item i))
resolve_insert_in (object ms) t = Ok (insert_target.Member (is_some (member_at ms t)))
resolve_insert_in _ t = Err NoContainer

-- where an insertion at a path goes
abbrev pub resolve_insert : Document → Path → Result InsertTarget Cause
resolve_insert d [] = Ok insert_target.Root
resolve_insert d (t ∷ path) =
    then_do (walk d (parent t path)) (λ c. resolve_insert_in c (last t path))

abbrev pub is_list : Document → Bool
is_list (list ds) = true
is_list _ = false

-- whether the part that a token names is an element of a list
abbrev pub resolve_existing_in : Document → Token → Result Bool Cause
resolve_existing_in c t = then_do (step c t) (λ _. Ok (is_list c))

-- whether the part at a path is an element of a list
abbrev pub resolve_existing : Document → Path → Result Bool Cause
resolve_existing d [] = Err Root
resolve_existing d (t ∷ path) =
    then_do (walk d (parent t path)) (λ c. resolve_existing_in c (last t path))

-- the last token of the place of an insertion, with `-` replaced by the index
abbrev pub final : InsertTarget → Token → Token
final (insert_target.Item i) t = if is_dash t then index_text i else t
final _ t = t

abbrev pub is_item : InsertTarget → Bool
is_item (insert_target.Item i) = true
is_item _ = false

-- the place of an insertion at a path, given its target
abbrev pub insert_place : InsertTarget → Path → Place
insert_place s [] = record { path = []; item = is_item s }
insert_place s (t ∷ path) =
    record { path = parent t path ++ final s (last t path) ∷ []; item = is_item s }

abbrev pub shifted_index : ℕ → Option ℕ → Option ℕ → Option ℕ
shifted_index n (Some i) (Some j) = if nat_le i j && nat_lt j n then Some (j + 1) else None
shifted_index n _ _ = None

-- the present index of the element that the second token names after the one that the first names
-- is removed, if the removal shifts it
abbrev pub shifted : Document → Token → Token → Option ℕ
shifted (list ds) gone t = shifted_index (items_length ds) (index_of gone) (index_of t)
shifted _ gone t = None

abbrev pub is_end_index : ℕ → Option ℕ → Bool
is_end_index n None = false
is_end_index n (Some i) = i + 1 == n

-- whether a token names the last element of a list
abbrev pub is_end : Document → Token → Bool
is_end (list ds) t = is_end_index (items_length ds) (index_of t)
is_end _ t = false

abbrev pub ends : Result Document Cause → Token → Bool
ends (Ok c) t = is_end c t
ends (Err e) t = false

-- whether two tokens name the same place of a container, the second one after the part of the first
-- is removed
abbrev pub is_same_end : Result Document Cause → Token → Token → Bool
is_same_end c t last = bytes_eq t last || (is_dash last && ends c t)

-- the change of an insertion at a canonical path, by its target
abbrev pub insertion : InsertTarget → Path → Document → Change
insertion insert_target.Root path v = change.Set path v
insertion (insert_target.Member true) path v = change.Set path v
insertion (insert_target.Member false) path v = change.AddMember path v
insertion (insert_target.Item i) path v = change.AddItem path v

abbrev pub removal : Bool → Path → Change
removal true path = change.DropItem path
removal false path = change.DropMember path

abbrev pub listed : Option Change → List Change
listed None = []
listed (Some c) = c ∷ []

-- a fault of a step that copies a value: it ran out of memory, or what is left does not pay for the
-- value
abbrev pub IsUnpaid : Document → Budget → Cause → Type 0
IsUnpaid v left cause = cause ≢ NoMemory → (cause ≡ TooHeavy) × (paid (weight v) left ≡ None)

-- why an operation is refused if its change weighs more than what is left: it fails its own checks,
-- or it is too heavy
abbrev pub IsOverspent : Document → Op → Budget → Cause → Type 0
IsOverspent d op left cause =
    (effect d op ≡ Err cause)
    ⊎ ((cause ≡ TooHeavy) × IsOk (effect d op)
    × (paid (changes_weight (changes_of d op)) left ≡ None))

-- a fault of an operation for whose change so much is left: one that passes ran out of memory, or
-- it is refused
abbrev pub RefusesWithin : Document → Op → Budget → Cause → Type 0
RefusesWithin d op left cause =
    (cause ≢ NoMemory → IsOverspent d op left cause) × (cause ≡ NoMemory → IsOk (effect d op))

-- JSON Patch (RFC 6902): what each operation makes of a document, and the bounds on it.
use Rattle.std.specs.Prelude.{ℕ, ◌-◌, ◌^◌, [], ◌∷◌, Bool, Option, Some, None, ok_or, Result, Ok}
use Rattle.std.specs.Prelude.{Err, bytes_eq, if◌then◌else◌, nat_lt}
use Rattle.relay_tree.specs.Document.{Document, list, object, Items, depth, weight, saturated}
use Rattle.relay_tree.specs.Part.{items_length, insert_item, drop_item, put_member, drop_member}
use Rattle.relay_tree.specs.declared.budget.Budget.TheVariants.{Unbounded}
use Rattle.relay_pointer.specs.Index.{Token, index_of}
use Rattle.relay_pointer.specs.Path.{Path, with_child, is_proper_prefix, same_path}
use Rattle.relay_tree.specs.Same.{same}
use Rattle.relay_patch.specs.Walk.{Cause, Missing, NotIndex, PastEnd, NoContainer, Root, IntoItself}
use Rattle.relay_patch.specs.Walk.{TestFailed, TooDeep, TooHeavy, then_do, dash, no_element, step}
use Rattle.relay_patch.specs.Walk.{walk}
use Rattle.relay_patch.specs.Place.{place_of}
pub use Rattle.relay_patch.specs.declared.op.Op.{Op}
pub use Rattle.relay_patch.specs.declared.op.Op.TheVariants.{Add, Remove, Replace, Move, Copy, Test}
pub use Rattle.relay_patch.specs.declared.bounds.Bounds.{Bounds}

-- Acts in a container, on the part that a token names.

abbrev pub Act : Type 0
Act = Token → Document → Result Document Cause

-- the place of a list at which a token inserts: `-` names the end
abbrev pub place_in : Items → Token → Option ℕ
place_in ds t = if bytes_eq t dash then Some (items_length ds) else index_of t

abbrev pub insert_element : Document → Items → Option ℕ → Result Document Cause
insert_element v ds None = Err NotIndex
insert_element v ds (Some i) = then_do (ok_or (insert_item ds i v) PastEnd) (λ es. Ok (list es))

-- v inserted in a list, or put in an object
abbrev pub insert_child : Document → Act
insert_child v t (list ds) = insert_element v ds (place_in ds t)
insert_child v t (object ms) = Ok (object (put_member ms t v))
insert_child v t _ = Err NoContainer

abbrev pub drop_element : Items → Token → Option ℕ → Result Document Cause
drop_element ds t None = Err (no_element t)
drop_element ds t (Some i) = then_do (ok_or (drop_item ds i) Missing) (λ es. Ok (list es))

-- the container without the part
abbrev pub drop_child : Act
drop_child t (list ds) = drop_element ds t (index_of t)
drop_child t (object ms) = then_do (ok_or (drop_member ms t) Missing) (λ ns. Ok (object ns))
drop_child t _ = Err NoContainer

-- the document with the part that a token names changed
abbrev pub inside : (Document → Result Document Cause) → Token → Document → Result Document Cause
inside change t d = then_do (step d t) (λ c. then_do (change c) (λ c'. Ok (with_child d t c')))

-- the document with v in place of the part
abbrev pub set_child : Document → Act
set_child v t d = inside (λ c. Ok v) t d

-- an act at the last token of t followed by path
abbrev pub below : Act → Token → Path → Document → Result Document Cause
below act t [] d = act t d
below act t (u ∷ path) d = inside (below act u path) t d

-- an act at the last token of a path, which must not be empty
abbrev pub at_path : Act → Path → Document → Result Document Cause
at_path act [] d = Err Root
at_path act (t ∷ path) d = below act t path d

-- The effects of operations on a document (RFC 6902, sections 4.1 to 4.6).

abbrev pub added : Path → Document → Document → Result Document Cause
added [] v d = Ok v
added (t ∷ path) v d = below (insert_child v) t path d

abbrev pub replaced : Path → Document → Document → Result Document Cause
replaced [] v d = Ok v
replaced (t ∷ path) v d = below (set_child v) t path d

-- v, the value at the first path, removed and added at the second; unchanged if both are the same
-- place
abbrev pub moved : Path → Path → Document → Document → Result Document Cause
moved [] path v d = Ok d
moved (t ∷ from) path v d =
    then_do (below drop_child t from d)
    (λ e. if same_path (t ∷ from) (place_of e path).path then Ok d else added path v e)

-- the document after an operation, or the first refusal
abbrev pub effect : Document → Op → Result Document Cause
effect d (Add path v) = added path v d
effect d (Remove path) = at_path drop_child path d
effect d (Replace path v) = replaced path v d
effect d (Move from path) =
    then_do (walk d from)
    (λ v. if is_proper_prefix from path then Err IntoItself else moved from path v d)
effect d (Copy from path) = then_do (walk d from) (λ v. added path v d)
effect d (Test path v) = then_do (walk d path) (λ w. if same w v then Ok d else Err TestFailed)

-- The bounds on a document.

-- no number exceeds a bound of 2 ^ 64 - 1
abbrev pub exceeds : ℕ → ℕ → Bool
exceeds most n = nat_lt most (saturated n)

-- the bounds that nothing exceeds
abbrev pub free : Bounds
free = record { depth = 2 ^ 64 - 1; weight = 2 ^ 64 - 1; changes = Unbounded }

-- the document, if it is neither too deep nor too heavy; the depth is checked first
abbrev pub within : Bounds → Document → Result Document Cause
within bounds d =
    if exceeds bounds.depth (depth d) then Err TooDeep
    else (if exceeds bounds.weight (weight d) then Err TooHeavy else Ok d)

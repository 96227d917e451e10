-- A document is read as a patch or refused with its first fault, and a patch is written
-- (RFC 6902, sections 3 and 4).
use Rattle.std.specs.Prelude.{ℕ, List, [], ◌∷◌, length, codes, bytes_eq, Option, Some, None, Result}
use Rattle.std.specs.Prelude.{Ok, Err, nat_le, nat_lt, if◌then◌else◌}
use Rattle.relay_tree.specs.Document.{Document, text, list, object, Items, no_items, item, Members}
use Rattle.relay_tree.specs.Document.{no_members, member}
use Rattle.relay_tree.specs.Each.{each_from}
use Rattle.relay_tree.specs.Part.{items_length, object_member, text_in}
use Rattle.relay_pointer.specs.Path.{Path}
use Rattle.relay_pointer.specs.Spelling.{path_of_text, spelling}
use Rattle.relay_patch.specs.declared.op.Op.{Op}
use Rattle.relay_patch.specs.declared.op.Op.TheVariants as op
use Rattle.relay_patch.specs.declared.form.kind.Kind.{Kind}
use Rattle.relay_patch.specs.declared.form.kind.Kind.TheVariants as kind
use Rattle.relay_patch.specs.declared.limits.PatchFault.{PatchFault}
use Rattle.relay_patch.specs.declared.limits.PatchFault.TheVariants.{TooManyOps, Shape, UnknownOp}
use Rattle.relay_patch.specs.declared.limits.PatchFault.TheVariants.{Pointer}

-- Reading.

-- the continuation applied to a part, or the fault if there is no part
abbrev pub with_part : {A B : Type 0} → Option A → PatchFault → (A → Result B PatchFault)
    → Result B PatchFault
with_part (Some x) fault f = f x
with_part None fault f = Err fault

abbrev pub and_then : {A B : Type 0} → Result A PatchFault → (A → Result B PatchFault)
    → Result B PatchFault
and_then (Ok x) f = f x
and_then (Err fault) f = Err fault

abbrev pub kind_of : List ℕ → Option Kind
kind_of name =
    if bytes_eq name (codes "add") then Some kind.Add else
    if bytes_eq name (codes "remove") then Some kind.Remove else
    if bytes_eq name (codes "replace") then Some kind.Replace else
    if bytes_eq name (codes "move") then Some kind.Move else
    if bytes_eq name (codes "copy") then Some kind.Copy else
    if bytes_eq name (codes "test") then Some kind.Test else None

abbrev pub path_within : ℕ → ℕ → Option Path → Result Path PatchFault
path_within most n None = Err (Pointer n)
path_within most n (Some path) = if nat_le (length path) most then Ok path else Err (Pointer n)

-- the path that a text spells, of at most `most` tokens, or else the fault of the operation at
-- place n
abbrev pub path_in : ℕ → ℕ → List ℕ → Result Path PatchFault
path_in most n s = path_within most n (path_of_text s)

-- an operation with a value, and one with a source, built from the members that it needs
abbrev pub valued : ℕ → ℕ → Option Document → List ℕ → (Path → Document → Op) → Result Op PatchFault
valued most n value path make =
    with_part value (Shape (Some n)) (λ v. and_then (path_in most n path) (λ p. Ok (make p v)))

abbrev pub sourced : ℕ → ℕ → Option (List ℕ) → List ℕ → (Path → Path → Op) → Result Op PatchFault
sourced most n source path make =
    with_part source (Shape (Some n))
    (λ from. and_then (path_in most n path)
    (λ p. and_then (path_in most n from) (λ f. Ok (make f p))))

abbrev pub op_of_kind : Kind → ℕ → ℕ → Option Document → Option (List ℕ) → List ℕ
    → Result Op PatchFault
op_of_kind kind.Add most n value from path = valued most n value path op.Add
op_of_kind kind.Remove most n value from path =
    and_then (path_in most n path) (λ p. Ok (op.Remove p))
op_of_kind kind.Replace most n value from path = valued most n value path op.Replace
op_of_kind kind.Move most n value from path = sourced most n from path op.Move
op_of_kind kind.Copy most n value from path = sourced most n from path op.Copy
op_of_kind kind.Test most n value from path = valued most n value path op.Test

-- the element at place n read as an operation: its members are checked in the order in which they
-- are written here
abbrev pub op_at : ℕ → ℕ → Document → Result Op PatchFault
op_at most n d =
    with_part (text_in d (codes "op")) (Shape (Some n)) (λ name.
    with_part (kind_of name) (UnknownOp n) (λ k.
    with_part (text_in d (codes "path")) (Shape (Some n))
    (λ path. op_of_kind k most n (object_member d (codes "value"))
    (text_in d (codes "from")) path)))

-- a bound of 2 ^ 64 - 1 refuses nothing: no list is that long
abbrev pub patch_of : ℕ → ℕ → Document → Result (List Op) PatchFault
patch_of ops tokens (list ds) =
    if nat_lt ops (items_length ds) then Err TooManyOps else each_from (op_at tokens) 0 ds
patch_of ops tokens _ = Err (Shape None)

-- Writing.

abbrev pub from_member : Path → Members → Members
from_member from rest = member (codes "from") (text (spelling from)) rest

abbrev pub op_member : List ℕ → Members → Members
op_member name rest = member (codes "op") (text name) rest

abbrev pub path_member : Path → Members → Members
path_member path rest = member (codes "path") (text (spelling path)) rest

abbrev pub value_member : Document → Members
value_member v = member (codes "value") v no_members

abbrev pub op_members : Op → Members
op_members (op.Add path v) = op_member (codes "add") (path_member path (value_member v))
op_members (op.Remove path) = op_member (codes "remove") (path_member path no_members)
op_members (op.Replace path v) = op_member (codes "replace") (path_member path (value_member v))
op_members (op.Move from path) =
    from_member from (op_member (codes "move") (path_member path no_members))
op_members (op.Copy from path) =
    from_member from (op_member (codes "copy") (path_member path no_members))
op_members (op.Test path v) = op_member (codes "test") (path_member path (value_member v))

abbrev pub ops_items : List Op → Items
ops_items [] = no_items
ops_items (o ∷ ops) = item (object (op_members o)) (ops_items ops)

abbrev pub patch_document : List Op → Document
patch_document ops = list (ops_items ops)

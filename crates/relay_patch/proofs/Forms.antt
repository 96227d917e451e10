-- Patches as lists of elements.
use Rattle.std.proofs.Common.{◌≡◌, ℕ, ◌<◌, ◌≤◌, List, [], ◌∷◌, length, map, true, false, nat_lt}
use Rattle.std.proofs.Common.{Err, refl, ap, arith}
use Rattle.std.proofs.lemmas.Bool.Decides.{nat_tests}
use Rattle.relay_tree.specs.Document.{Document, list, object, item, items_of}
use Rattle.relay_tree.specs.Each.{each_from}
use Rattle.relay_tree.proofs.Elements.{items_length-items_of}
use Rattle.relay_patch.specs.Form.{op_at, patch_of, op_members, ops_items}
use Rattle.relay_patch.specs.declared.limits.PatchFault.TheVariants.{TooManyOps}
use Rattle.relay_patch.specs.declared.op.Op.{Op}

-- A list within the limit is read element by element; a longer one is refused at once.

pub few : (ops tokens : ℕ) (items : List Document) → length items ≤ ops
    → patch_of ops tokens (list (items_of items)) ≡ each_from (op_at tokens) 0 (items_of items)
few ops tokens items h = let test : nat_lt ops (length items) ≡ false = grind (arith, nat_tests) in
    rw (items_length-items_of items, test) refl

pub many : (ops tokens : ℕ) (items : List Document) → ops < length items
    → patch_of ops tokens (list (items_of items)) ≡ Err TooManyOps
many ops tokens items h = let test : nat_lt ops (length items) ≡ true = grind (arith, nat_tests) in
    rw (items_length-items_of items, test) refl

abbrev pub op_document : Op → Document
op_document o = object (op_members o)

pub ops_items-map : (ops : List Op) → items_of (map op_document ops) ≡ ops_items ops
ops_items-map [] = refl
ops_items-map (o ∷ ops) = ap (item (op_document o)) (ops_items-map ops)

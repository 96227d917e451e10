-- A patch round-trips if its paths are short.
use Rattle.std.proofs.Common.{◌≡◌, ℕ, suc, ◌≤◌, List, [], ◌∷◌, length, true, false, nat_le}
use Rattle.std.proofs.Common.{nat_lt, Ok, refl, ap, ◌∙◌, arith}
use Rattle.std.proofs.lemmas.Bool.Decides.{nat_tests}
use Rattle.std.specs.List.{AllByRecursion}
use Rattle.relay_tree.specs.Document.{object}
use Rattle.relay_tree.specs.Each.{each_from}
use Rattle.relay_tree.specs.Part.{items_length}
use Rattle.relay_pointer.specs.Path.{Path}
use Rattle.relay_pointer.specs.Spelling.{spelling}
use Rattle.relay_pointer.proofs.Spellings.{path_of_text-spelling}
use Rattle.relay_patch.specs.Form.{path_in, path_within, op_at, op_members, ops_items, patch_of}
use Rattle.relay_patch.specs.Form.{patch_document}
use Rattle.relay_patch.specs.Sizes.{IsShort}
use Rattle.relay_patch.specs.declared.op.Op.{Op}
use Rattle.relay_patch.specs.declared.op.Op.TheVariants.{Add, Remove, Replace, Move, Copy, Test}
use Rattle.relay_proto.specs.Written.{HasShortPaths}

path_back : (most n : ℕ) (path : Path) → IsShort most path
    → path_in most n (spelling path) ≡ Ok path
path_back most n path h =
    let short : nat_le (length path) most ≡ true = grind (arith, nat_tests) in
    ap (path_within most n) (path_of_text-spelling path) ∙ rw short refl

op_back : (most n : ℕ) (o : Op) → HasShortPaths most o
    → op_at most n (object (op_members o)) ≡ Ok o
op_back most n (Add path v) h = rw (path_back most n path h) refl
op_back most n (Remove path) h = rw (path_back most n path h) refl
op_back most n (Replace path v) h = rw (path_back most n path h) refl
op_back most n (Move from path) h = rw (path_back most n path h.1, path_back most n from h.0) refl
op_back most n (Copy from path) h = rw (path_back most n path h.1, path_back most n from h.0) refl
op_back most n (Test path v) h = rw (path_back most n path h) refl

ops_back : (most n : ℕ) (ops : List Op) → AllByRecursion (HasShortPaths most) ops
    → each_from (op_at most) n (ops_items ops) ≡ Ok ops
ops_back most n [] h = refl
ops_back most n (o ∷ ops) h = rw (op_back most n o h.0, ops_back most (suc n) ops h.1) refl

items_length-ops_items : (ops : List Op) → items_length (ops_items ops) ≡ length ops
items_length-ops_items [] = refl
items_length-ops_items (o ∷ ops) = ap suc (items_length-ops_items ops)

pub patch_back : (most tokens : ℕ) (ops : List Op) → AllByRecursion (HasShortPaths tokens) ops
    → length ops ≤ most → patch_of most tokens (patch_document ops) ≡ Ok ops
patch_back most tokens ops short few =
    let test : nat_lt most (length ops) ≡ false = grind (arith, nat_tests) in
    rw (items_length-ops_items ops, test) (ops_back tokens 0 ops short)

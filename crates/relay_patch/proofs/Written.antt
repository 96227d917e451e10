-- A patch that is written reads back as the same patch.
use Rattle.std.proofs.Common.{◌≡◌, ℕ, suc, ◌≤◌, List, [], ◌∷◌, length, true, false, nat_le, nat_lt}
use Rattle.std.proofs.Common.{Ok, refl, ap, arith}
use Rattle.std.specs.List.{AllByRecursion}
use Rattle.std.proofs.lemmas.Bool.Decides.{nat_tests}
use Rattle.relay_tree.specs.Document.{object}
use Rattle.relay_tree.specs.Each.{each_from}
use Rattle.relay_tree.specs.Part.{items_length}
use Rattle.relay_pointer.specs.Path.{Path}
use Rattle.relay_pointer.specs.Spelling.{spelling}
use Rattle.relay_pointer.proofs.Spellings.{path_of_text-spelling}
use Rattle.relay_patch.specs.Patch.{Op, Add, Remove, Replace, Move, Copy, Test}
use Rattle.relay_patch.specs.Sizes.{OpFits}
use Rattle.relay_patch.specs.Form.{path_in, op_at, op_members, ops_items, patch_of, patch_document}

path_back : (most n : ℕ) (path : Path) → length path ≤ most
    → path_in most n (spelling path) ≡ Ok path
path_back most n path h = let test : nat_le (length path) most ≡ true = grind (arith, nat_tests) in
    rw (path_of_text-spelling path, test) refl

op_back : (op : Op) (most deepest n : ℕ) → OpFits most deepest op
    → op_at most n (object (op_members op)) ≡ Ok op
op_back (Add path v) most deepest n h = rw (path_back most n path h.0) refl
op_back (Remove path) most deepest n h = rw (path_back most n path h) refl
op_back (Replace path v) most deepest n h = rw (path_back most n path h.0) refl
op_back (Move from path) most deepest n h =
    rw (path_back most n path h.1, path_back most n from h.0) refl
op_back (Copy from path) most deepest n h =
    rw (path_back most n path h.1, path_back most n from h.0) refl
op_back (Test path v) most deepest n h = rw (path_back most n path h.0) refl

each_back : (ops : List Op) (most deepest n : ℕ) → AllByRecursion (OpFits most deepest) ops
    → each_from (op_at most) n (ops_items ops) ≡ Ok ops
each_back [] most deepest n h = refl
each_back (op ∷ ops) most deepest n h =
    rw (op_back op most deepest n h.0, each_back ops most deepest (suc n) h.1) refl

ops_items-length : (ops : List Op) → items_length (ops_items ops) ≡ length ops
ops_items-length [] = refl
ops_items-length (op ∷ ops) = ap suc (ops_items-length ops)

pub reads_back : (count most deepest : ℕ) (ops : List Op) → length ops ≤ count
    → AllByRecursion (OpFits most deepest) ops → patch_of count most (patch_document ops) ≡ Ok ops
reads_back count most deepest ops few fit =
    let test : nat_lt count (length ops) ≡ false = grind (arith, nat_tests) in
    rw (ops_items-length ops, test) (each_back ops most deepest 0 fit)

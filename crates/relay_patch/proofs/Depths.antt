-- A value is as deep in a document as its path is long.
use Rattle.std.proofs.Common.{◌≡◌, ℕ, suc, ◌+◌, ◌≤◌, [], ◌∷◌, length, Option, Some, None, Ok, ap}
use Rattle.std.proofs.Common.{arith}
use Rattle.relay_tree.specs.Document.{Document, list, object, Items, depth, items_depth}
use Rattle.relay_pointer.specs.Index.{Token, index_of}
use Rattle.relay_pointer.specs.Path.{Path}
use Rattle.relay_patch.specs.Walk.{element, step, walk}
use Rattle.relay_patch.proofs.Refusals.{then_ok, ok_or_some}
use Rattle.relay_tree.proofs.Sizes.{item_depth, member_depth}

element_depth : (ds : Items) (t : Token) (o : Option ℕ) (c : Document) → element ds t o ≡ Ok c
    → depth c ≤ items_depth ds
element_depth ds t None c h = cc
element_depth ds t (Some i) c h = item_depth ds i c (ok_or_some _ _ _ h)

child_depth : (d : Document) (t : Token) (c : Document) → step d t ≡ Ok c → suc (depth c) ≤ depth d
child_depth (list ds) t c h = let e = element_depth ds t (index_of t) c h in omega (arith, e)
child_depth (object ms) t c h = let e = member_depth ms t c (ok_or_some _ _ _ h) in omega (arith, e)
child_depth _ t c h = cc

pub walk_depth : (path : Path) (d v : Document) → walk d path ≡ Ok v
    → length path + depth v ≤ depth d
walk_depth [] d v h = let same : d ≡ v = cc in let e = ap depth same in omega (arith, e)
walk_depth (t ∷ path) d v h =
    let s = then_ok (step d t) (λ c. walk c path) v h in
    omega (arith, child_depth d t s.0 s.1, walk_depth path s.0 v s.2)

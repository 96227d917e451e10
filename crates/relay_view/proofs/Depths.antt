-- A slot's contents are no deeper than the value that it shows.
use Rattle.std.proofs.Common.{◌≡◌, ◌≤◌, ℕ, Option, Some, None, option_map, ap, arith}
use Rattle.relay_tree.specs.Document.{Document, null, depth}
use Rattle.relay_view.specs.View.{size, counted, shown}
use Rattle.relay_view.specs.declared.slot.SlotKind.{SlotKind}
use Rattle.relay_view.specs.declared.slot.SlotKind.TheVariants.{Value, Size}

depth-some : (d : Document) → 1 ≤ depth d
depth-some null = omega arith
depth-some _ = omega arith

pub shown_depth : (kind : SlotKind) (v w : Document) → shown kind v ≡ Some w → depth w ≤ depth v
shown_depth Value v w is = let same : v ≡ w = cc in omega (arith, ap depth same)
shown_depth Size v w is = go (size v) is
  where
    go : (o : Option ℕ) → option_map counted o ≡ Some w → depth w ≤ depth v
    go None e = absurd cc
    go (Some n) e = let same : counted n ≡ w = cc in omega (arith, ap depth same, depth-some v)

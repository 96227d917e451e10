-- The bounds that no document exceeds.
use Rattle.std.proofs.Common.{◌≡◌, ℕ, ◌-◌, ◌^◌, Bool, true, false, Ok, refl, arith}
use Rattle.std.proofs.lemmas.Bool.Decides.{nat_tests}
use Rattle.relay_tree.specs.Document.{Document, depth, weight}
use Rattle.relay_patch.specs.Patch.{exceeds, free, within}

exceeds_most : (n : ℕ) → exceeds (2 ^ 64 - 1) n ≡ false
exceeds_most n = go (exceeds (2 ^ 64 - 1) n) refl
  where
    go : (x : Bool) → exceeds (2 ^ 64 - 1) n ≡ x → exceeds (2 ^ 64 - 1) n ≡ false
    go true e = absurd (grind (arith, nat_tests))
    go false e = e

pub within_free : (d : Document) → within free d ≡ Ok d
within_free d = rw (exceeds_most (depth d), exceeds_most (weight d)) refl

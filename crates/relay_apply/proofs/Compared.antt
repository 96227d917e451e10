-- Tests that pass and fail.
use Rattle.std.proofs.Common.{◌≡◌, Bool, true, false, Ok, Err, refl}
use Rattle.relay_tree.specs.Document.{Document}
use Rattle.relay_pointer.specs.Path.{Path}
use Rattle.relay_patch.specs.Walk.{walk}
use Rattle.relay_patch.specs.declared.fault.Cause.TheVariants.{TestFailed}
use Rattle.relay_patch.specs.Patch.{effect}
use Rattle.relay_patch.specs.declared.op.Op.TheVariants.{Test}
use Rattle.relay_tree.specs.Same.{same}
use Rattle.relay_tree.proofs.Equal.{same-Decides}

pub passed_test : (p : Path) (d v c : Document) → walk d p ≡ Ok c → c ≡ v
    → effect d (Test p v) ≡ Ok d
passed_test p d v c there is =
    let t : same c v ≡ true = (same-Decides c v).1 is in rw (there, t) refl

pub failed_test : (p : Path) (d v c : Document) → walk d p ≡ Ok c → (c ≡ v → ⊥)
    → effect d (Test p v) ≡ Err TestFailed
failed_test p d v c there other = go (same c v) refl
  where
    go : (x : Bool) → same c v ≡ x → effect d (Test p v) ≡ Err TestFailed
    go true e = absurd (other ((same-Decides c v).0 e))
    go false e = rw (there, e) refl

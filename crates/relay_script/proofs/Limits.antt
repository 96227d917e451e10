-- A limit that is out of range is detected before a run begins.
use Rattle.std.proofs.Common.{◌≡◌, ◌↔◌, Result, Ok, Err, IsErrOf}

-- if a job began, and no such fault came later, no limit is out of range
pub limits_kept : {A B E F : Type 0} (begun : A) (ended : Result B F) (early : E) (late : F)
    (bad : Type 0) → (IsErrOf (Ok begun) early ↔ bad)
    → (ended ≡ Err late → ⊥) → IsErrOf ended late ↔ bad
limits_kept begun ended early late bad limits none =
    (λ e. absurd (none e), λ b. absurd (let e : Ok begun ≡ Err early = limits.1 b in cc))

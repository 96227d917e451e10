-- One more digit of a number.
use Rattle.std.proofs.Common.{◌≡◌, ℕ, zero, suc, ◌+◌, ◌-◌, ◌*◌, ◌<◌, List, [], ◌∷◌, length, take}
use Rattle.std.proofs.Common.{get_or, refl, arith}
use Rattle.relay_pointer.specs.Index.{number_onto}

pub number_more : (bytes : List ℕ) (m i : ℕ) → i < length bytes
    → number_onto m (take (suc i) bytes) ≡ number_onto m (take i bytes) * 10
    + (get_or bytes i 0 - 48)
number_more [] m i h = absurd (omega arith)
number_more (b ∷ bytes) m zero h = refl
number_more (b ∷ bytes) m (suc i) h = number_more bytes (m * 10 + (b - 48)) i (omega arith)

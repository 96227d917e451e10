-- One more digit of a number.
use Rattle.std.proofs.Common.{◌≡◌, ℕ, ◌+◌, ◌-◌, ◌*◌, ◌<◌, List, [], ◌∷◌, ◌++◌, length, take, get_or}
use Rattle.std.proofs.Common.{refl, ◌∙◌, ap, add-one}
use Rattle.std.proofs.Math.Seq.{take-suc}
use Rattle.relay_admin.specs.Edits.{number_after}

number_after-push : (n : ℕ) (digits : List ℕ) (digit : ℕ)
    → number_after n (digits ++ digit ∷ []) ≡ number_after n digits * 10 + (digit - 48)
number_after-push n [] digit = refl
number_after-push n (first ∷ digits) digit =
    number_after-push (n * 10 + (first - 48)) digits digit

-- the number that one digit more writes
pub number_after_next : (digits : List ℕ) (i : ℕ) → i < length digits
    → number_after 0 (take (i + 1) digits)
    ≡ number_after 0 (take i digits) * 10 + (get_or digits i 0 - 48)
number_after_next digits i within =
    ap (λ k. number_after 0 (take k digits)) (add-one i)
    ∙ ap (number_after 0) (take-suc digits i 0 within)
    ∙ number_after-push 0 (take i digits) (get_or digits i 0)

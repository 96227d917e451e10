-- Revisions one by one, oldest first, as the iterator returns them.
use Rattle.std.proofs.Common.{arith, ap, ◌∙◌, append_assoc, append-nil, sub-one, ◌≡◌, ℕ, zero, suc}
use Rattle.std.proofs.Common.{◌-◌, ◌<◌, List, [], ◌∷◌, ◌++◌, take, slice_get, Some, length, true}
use Rattle.std.proofs.Common.{◌==◌}
use Rattle.std.proofs.lemmas.Grind.{common_steps}
use Rattle.relay_patch.specs.declared.change.Change.{Change}
use Rattle.relay_history.specs.History.{in_order}

told_older : (revisions : List (List Change)) (n : ℕ) (oldest : List Change)
    → slice_get revisions n ≡ Some oldest
    → in_order (take (suc n) revisions) ≡ oldest ++ in_order (take n revisions)
told_older [] n oldest is = cc
told_older (newest ∷ older) zero oldest is =
    let same : newest ≡ oldest = cc in
    rw append-nil same
told_older (newest ∷ older) (suc n) oldest is =
    ap (λ told. told ++ newest) (told_older older n oldest is)
    ∙ append_assoc oldest (in_order (take n older)) newest

-- the oldest of the first n revisions comes before the others
told_oldest : (revisions : List (List Change)) (n : ℕ) (oldest : List Change) → 0 < n
    → slice_get revisions (n - 1) ≡ Some oldest
    → in_order (take n revisions) ≡ oldest ++ in_order (take (n - 1) revisions)
told_oldest revisions zero oldest some is = absurd (omega arith)
told_oldest revisions (suc n) oldest some is =
    rw sub-one (told_older revisions n oldest (rw sub-one at is))

-- moving on from a finished revision to the next newer one leaves the remaining changes the same
pub told_on : (told : List Change) (revisions : List (List Change)) (n : ℕ) (oldest : List Change)
    → (length told == 0) ≡ true → 0 < n → slice_get revisions (n - 1) ≡ Some oldest
    → oldest ++ in_order (take (n - 1) revisions) ≡ told ++ in_order (take n revisions)
told_on told revisions n oldest done some is =
    grind (arith, common_steps, told_oldest revisions n oldest some is)

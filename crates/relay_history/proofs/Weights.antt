-- The total weight of revisions when one is added or the oldest is forgotten.
use Rattle.std.proofs.Common.{◌≡◌, ℕ, zero, suc, ◌+◌, ◌-◌, ◌*◌, ◌<◌, ◌≤◌, List, [], ◌∷◌, length}
use Rattle.std.proofs.Common.{take, slice_get, refl, arith}
use Rattle.std.specs.List.{sum_by}
use Rattle.std.proofs.lemmas.List.{length-take}
use Rattle.std.proofs.lemmas.List.Sums.{sum_by-cons}
use Rattle.circular_buffer.specs.Buffer.{buffer}
use Rattle.relay_limits.specs.declared.TheConstants.{MAX_COUNT, MAX_REVISIONS}
use Rattle.relay_patch.specs.declared.change.Change.{Change}
use Rattle.relay_history.specs.declared.history.TheConstants.{LAST_REVISION}
use Rattle.relay_history.specs.Trimmed.{revision_weight}
use Rattle.relay_history.specs.declared.history.History.TheInside.{Inside}
use Rattle.relay_history.specs.Representation.{past_of, IsKept, weight_of}
use Rattle.relay_history.proofs.Growing.{with_revision-is_history}
use Rattle.relay_history.proofs.Trims.{fewer_is_history}

weigh_most : (revisions : List (List Change))
    → sum_by revision_weight revisions ≤ length revisions * MAX_COUNT
weigh_most [] = omega arith
weigh_most (newest ∷ older) =
    omega (arith, sum_by-cons revision_weight newest older, weigh_most older)

-- the sum of as many as may be held, and of one more, fits in 64 bits
pub one_more_fits : (newest : List Change) (older : List (List Change))
    → length older ≤ MAX_REVISIONS
    → sum_by revision_weight older + revision_weight newest ≤ (MAX_REVISIONS + 1) * MAX_COUNT
one_more_fits newest older few = omega (arith, few, weigh_most older)

-- a prefix and the rest together weigh as much as all
last_weighs : (revisions : List (List Change)) (n : ℕ) → length revisions ≤ suc n
    → sum_by revision_weight (take n revisions) + weight_of (slice_get revisions n)
    ≡ sum_by revision_weight revisions
last_weighs [] zero few = refl
last_weighs [] (suc n) few = refl
last_weighs (newest ∷ []) zero few = grind (arith, sum_by-cons)
last_weighs (newest ∷ older ∷ oldest) zero few = absurd (omega (arith, few))
last_weighs (newest ∷ older) (suc n) few =
    omega (
      arith,
      sum_by-cons revision_weight newest (take n older),
      sum_by-cons revision_weight newest older,
      last_weighs older n (omega (arith, few)),
    )

-- one revision weighs no more than all
pub one_within : (revisions : List (List Change)) (n : ℕ)
    → weight_of (slice_get revisions n) ≤ sum_by revision_weight revisions
one_within [] n = omega arith
one_within (newest ∷ older) zero = omega (arith, sum_by-cons revision_weight newest older)
one_within (newest ∷ older) (suc n) =
    omega (arith, sum_by-cons revision_weight newest older, one_within older n)

pub one_within_more : (newest : List Change) (older : List (List Change)) (n : ℕ)
    → weight_of (slice_get (newest ∷ older) n) ≤ sum_by revision_weight older
    + revision_weight newest
one_within_more newest older n =
    omega (arith, sum_by-cons revision_weight newest older, one_within (newest ∷ older) n)

-- the invariant is kept when a revision is added and, if the limit is reached, the oldest is
-- forgotten
pub kept_with_revision : (h : Inside) (changes : List Change) → IsKept h → h.newest < LAST_REVISION
    → IsKept (record {
      newest = h.newest + 1;
      revisions = buffer
          (take h.revisions.capacity (changes ∷ h.revisions.items)) h.revisions.capacity;
      weight = h.weight + revision_weight changes
          - weight_of (slice_get (changes ∷ h.revisions.items) h.revisions.capacity);
    })
kept_with_revision h changes kept early =
    let weighs = kept.weighs in
    let within = kept.is.within in
    record {
      is = with_revision-is_history changes (past_of h) early kept.is;
      weighs = omega (
        arith,
        weighs,
        sum_by-cons revision_weight changes h.revisions.items,
        last_weighs (changes ∷ h.revisions.items) h.revisions.capacity (omega (arith, within)),
      );
    }

-- the invariant is kept when the oldest is forgotten
pub kept_without_oldest : (h : Inside) → IsKept h
    → IsKept (record {
      newest = h.newest;
      revisions = buffer
          (take (length h.revisions.items - 1) h.revisions.items) h.revisions.capacity;
      weight = h.weight - weight_of (slice_get h.revisions.items (length h.revisions.items - 1));
    })
kept_without_oldest h kept =
    let weighs = kept.weighs in
    let left = length h.revisions.items - 1 in
    record {
      is = fewer_is_history (past_of h) (take left h.revisions.items)
          (omega (arith, length-take left h.revisions.items)) kept.is;
      weighs = omega (arith, weighs, last_weighs h.revisions.items left (omega arith));
    }

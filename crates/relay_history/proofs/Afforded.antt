-- The newest revisions that a budget pays for: a prefix that weighs no more than the budget, and
-- all revisions if they weigh no more.
use Rattle.std.proofs.Common.{◌≡◌, ℕ, suc, ◌+◌, ◌-◌, ◌≤◌, Bool, true, false, nat_le, List, [], ◌∷◌}
use Rattle.std.proofs.Common.{length, take, Option, Some, None, refl, sym, ap, ◌∙◌, arith, sub-one}
use Rattle.std.proofs.Common.{add-zero}
use Rattle.std.specs.List.{sum_by}
use Rattle.std.proofs.lemmas.Bool.Decides.{nat_tests}
use Rattle.std.proofs.lemmas.List.Sums.{sum_by-cons}
use Rattle.relay_tree.specs.declared.budget.Budget.{Budget}
use Rattle.relay_tree.specs.declared.budget.Budget.TheVariants.{Unbounded, Left}
use Rattle.relay_tree.specs.Budget.{paid}
use Rattle.relay_tree.proofs.Budgets.{paid_on, paid_out}
use Rattle.relay_patch.specs.declared.change.Change.{Change}
use Rattle.relay_history.specs.Trimmed.{revision_weight, afforded}

-- if the first revision is paid for, it is followed by those that the rest of the budget pays for
afforded_paid : (budget left : Budget) (newest : List Change) (older : List (List Change))
    → paid (revision_weight newest) budget ≡ Some left
    → afforded budget (newest ∷ older) ≡ newest ∷ afforded left older
afforded_paid budget left newest older is = rw (is, afforded) refl

-- none if the first revision is not paid for
afforded_unpaid : (budget : Budget) (newest : List Change) (older : List (List Change))
    → paid (revision_weight newest) budget ≡ None → afforded budget (newest ∷ older) ≡ []
afforded_unpaid budget newest older is = rw (is, afforded) refl

-- all, if there is no bound
pub afforded_unbounded : (revisions : List (List Change)) → afforded Unbounded revisions ≡ revisions
afforded_unbounded [] = refl
afforded_unbounded (newest ∷ older) = ap (λ held. newest ∷ held) (afforded_unbounded older)

-- no more than there are
pub afforded_fewer : (budget : Budget) (revisions : List (List Change))
    → length (afforded budget revisions) ≤ length revisions
afforded_fewer budget [] = omega arith
afforded_fewer budget (newest ∷ older) =
    go (paid (revision_weight newest) budget) refl (λ left. afforded_fewer left older)
  where
    go : (o : Option Budget) → paid (revision_weight newest) budget ≡ o
        → ((left : Budget) → length (afforded left older) ≤ length older)
        → length (afforded budget (newest ∷ older)) ≤ suc (length older)
    go (Some left) is rest =
        rw (afforded_paid budget left newest older is) (omega (arith, rest left))
    go None is rest = rw (afforded_unpaid budget newest older is) (omega arith)

-- they are the first revisions
pub afforded_front : (budget : Budget) (revisions : List (List Change))
    → afforded budget revisions ≡ take (length (afforded budget revisions)) revisions
afforded_front budget [] = refl
afforded_front budget (newest ∷ older) =
    go (paid (revision_weight newest) budget) refl (λ left. afforded_front left older)
  where
    go : (o : Option Budget) → paid (revision_weight newest) budget ≡ o
        → ((left : Budget) → afforded left older ≡ take (length (afforded left older)) older)
        → afforded budget (newest ∷ older)
        ≡ take (length (afforded budget (newest ∷ older))) (newest ∷ older)
    go (Some left) is rest =
        rw (afforded_paid budget left newest older is) (ap (λ held. newest ∷ held) (rest left))
    go None is rest = rw (afforded_unpaid budget newest older is) refl

-- no heavier together than the budget
pub afforded_within : (most : ℕ) (revisions : List (List Change))
    → sum_by revision_weight (afforded (Left most) revisions) ≤ most
afforded_within most [] = omega arith
afforded_within most (newest ∷ older) =
    go (nat_le (revision_weight newest) most) refl
    (afforded_within (most - revision_weight newest) older)
  where
    left : ℕ
    left = most - revision_weight newest

    go : (u : Bool) → nat_le (revision_weight newest) most ≡ u
        → sum_by revision_weight (afforded (Left left) older) ≤ left
        → sum_by revision_weight (afforded (Left most) (newest ∷ older)) ≤ most
    go true is rest =
        let fits : revision_weight newest ≤ most = grind (arith, nat_tests, is) in
        rw (afforded_paid (Left most) (Left left) newest older (rw is refl))
        (omega (arith, fits, rest, sum_by-cons revision_weight newest (afforded (Left left) older)))
    go false is rest = rw (afforded_unpaid (Left most) newest older (rw is refl)) (omega arith)

-- all, if the budget pays for all of them
pub afforded_all : (budget : Budget) (revisions : List (List Change)) (after : Budget)
    → paid (sum_by revision_weight revisions) budget ≡ Some after
    → afforded budget revisions ≡ revisions
afforded_all budget [] after pays = refl
afforded_all budget (newest ∷ older) after pays =
    go (paid (revision_weight newest) budget) refl (λ left. afforded_all left older after)
    (rw (sum_by-cons revision_weight newest older) at pays)
  where
    go : (o : Option Budget) → paid (revision_weight newest) budget ≡ o
        → ((left : Budget) → paid (sum_by revision_weight older) left ≡ Some after
        → afforded left older ≡ older)
        → paid (revision_weight newest + sum_by revision_weight older) budget ≡ Some after
        → afforded budget (newest ∷ older) ≡ newest ∷ older
    go (Some left) is rest whole =
        rw (afforded_paid budget left newest older is)
        (ap (λ held. newest ∷ held)
        (rest left (paid_on (revision_weight newest)
        (sum_by revision_weight older) budget left is ∙ whole)))
    go None is rest whole =
        let none = paid_out (revision_weight newest) (sum_by revision_weight older) budget is in
        absurd cc

-- the oldest is left out if the budget does not pay for all of them
pub afforded_without_oldest : (budget : Budget) (revisions : List (List Change))
    → paid (sum_by revision_weight revisions) budget ≡ None
    → afforded budget (take (length revisions - 1) revisions) ≡ afforded budget revisions
afforded_without_oldest budget [] over = refl
afforded_without_oldest budget (newest ∷ older) over =
    go older (paid (revision_weight newest) budget) refl
    (λ left. afforded_without_oldest left older)
    (rw (sum_by-cons revision_weight newest older) at over)
  where
    go : (older : List (List Change)) (o : Option Budget) → paid (revision_weight newest) budget ≡ o
        → ((left : Budget) → paid (sum_by revision_weight older) left ≡ None
        → afforded left (take (length older - 1) older) ≡ afforded left older)
        → paid (revision_weight newest + sum_by revision_weight older) budget ≡ None
        → afforded budget (take (suc (length older) - 1) (newest ∷ older))
        ≡ afforded budget (newest ∷ older)
    go [] o is rest whole =
        let none : paid (revision_weight newest) budget ≡ None = rw add-zero at whole in
        rw (afforded_unpaid budget newest [] none) refl
    go (next ∷ oldest) (Some left) is rest whole =
        let over = paid_on (revision_weight newest)
        (sum_by revision_weight (next ∷ oldest)) budget left is ∙ whole in
        let same : afforded left (take (length oldest) (next ∷ oldest))
        ≡ afforded left (next ∷ oldest) = rw sub-one at (rest left over) in
        rw sub-one (afforded_paid budget left newest (take (length oldest) (next ∷ oldest)) is
        ∙ ap (λ held. newest ∷ held) same
        ∙ sym (afforded_paid budget left newest (next ∷ oldest) is))
    go (next ∷ oldest) None is rest whole =
        rw sub-one (afforded_unpaid budget newest (take (length oldest) (next ∷ oldest)) is
        ∙ sym (afforded_unpaid budget newest (next ∷ oldest) is))

-- Changes that are paid for, one after the other.
use Rattle.std.proofs.Common.{◌≡◌, ◌+◌, List, [], ◌∷◌, ◌++◌, Some, None, Err, refl, sym, ◌∙◌, arith}
use Rattle.relay_tree.specs.Document.{Document}
use Rattle.relay_tree.specs.Budget.{paid}
use Rattle.relay_tree.specs.declared.budget.Budget.{Budget}
use Rattle.relay_tree.proofs.Budgets.{paid_on}
use Rattle.relay_patch.specs.declared.fault.Cause.TheVariants.{TooHeavy}
use Rattle.relay_patch.specs.Patch.{within}
use Rattle.relay_patch.specs.declared.bounds.Bounds.{Bounds}
use Rattle.relay_patch.specs.declared.change.Change.{Change}
use Rattle.relay_patch.specs.Weight.{change_weight, changes_weight}
use Rattle.relay_patch.specs.After.{afforded}

pub changes_weight-append : (a b : List Change)
    → changes_weight (a ++ b) ≡ changes_weight a + changes_weight b
changes_weight-append [] b = omega arith
changes_weight-append (c ∷ a) b = omega (arith, changes_weight-append a b)

-- one more change is paid from what is left after those before it
paid_next : (cs : List Change) (c : Change) (budget left : Budget)
    → paid (changes_weight cs) budget ≡ Some left
    → paid (changes_weight cs + changes_weight (c ∷ [])) budget ≡ paid (change_weight c) left
paid_next cs c budget left h =
    let one : changes_weight cs + changes_weight (c ∷ []) ≡ changes_weight cs + change_weight c =
    omega arith in
    rw one (sym (paid_on (changes_weight cs) (change_weight c) budget left h))

pub paid_more : (cs : List Change) (c : Change) (budget left rest : Budget)
    → paid (changes_weight cs) budget ≡ Some left → paid (change_weight c) left ≡ Some rest
    → paid (changes_weight (cs ++ c ∷ [])) budget ≡ Some rest
paid_more cs c budget left rest h k =
    rw (changes_weight-append cs (c ∷ [])) (paid_next cs c budget left h ∙ k)

-- a document after a change that is paid for is judged by its own bounds
pub paid_afforded : (bounds : Bounds) (cs : List Change) (c : Change) (left rest : Budget)
    (d : Document) → paid (changes_weight cs) bounds.changes ≡ Some left
    → paid (change_weight c) left ≡ Some rest
    → afforded bounds (changes_weight cs + changes_weight (c ∷ [])) d ≡ within bounds d
paid_afforded bounds cs c left rest d h k = rw (paid_next cs c bounds.changes left h, k) refl

-- and one after a change that what is left does not pay for is too heavy
pub too_heavy : (bounds : Bounds) (cs : List Change) (c : Change) (left : Budget) (d : Document)
    → paid (changes_weight cs) bounds.changes ≡ Some left
    → paid (change_weight c) left ≡ None
    → afforded bounds (changes_weight cs + changes_weight (c ∷ [])) d ≡ Err TooHeavy
too_heavy bounds cs c left d h k = rw (paid_next cs c bounds.changes left h, k) refl

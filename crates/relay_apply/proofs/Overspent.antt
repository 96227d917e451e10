-- Operations for whose change too little is left.
use Rattle.std.proofs.Common.{◌≡◌, ◌≢◌, ◌+◌, ℕ, true, false, Some, None, Result, Ok, Err, List, []}
use Rattle.std.proofs.Common.{◌∷◌, inl, inr, refl, sym, subst, ◌∙◌, arith, IsOk}
use Rattle.relay_tree.specs.Document.{Document, weight}
use Rattle.relay_tree.specs.Budget.{paid}
use Rattle.relay_tree.specs.declared.budget.Budget.{Budget}
use Rattle.relay_tree.proofs.Budgets.{paid_on, paid_out}
use Rattle.relay_pointer.specs.Path.{Path}
use Rattle.relay_pointer.specs.Weight.{path_weight}
use Rattle.relay_patch.specs.Walk.{Refuses}
use Rattle.relay_patch.specs.declared.fault.Cause.{Cause}
use Rattle.relay_patch.specs.declared.fault.Cause.TheVariants.{NoMemory}
use Rattle.relay_patch.specs.Patch.{effect}
use Rattle.relay_patch.specs.declared.bounds.Bounds.{Bounds}
use Rattle.relay_patch.specs.declared.op.Op.{Op}
use Rattle.relay_patch.specs.Change.{changes_of}
use Rattle.relay_patch.specs.declared.change.Change.{Change}
use Rattle.relay_patch.specs.Weight.{change_weight, changes_weight}
use Rattle.relay_patch.specs.After.{performed}
use Rattle.relay_apply.specs.Steps.{InsertTarget, insertion, IsOverspent, IsUnpaid, RefusesWithin}
use Rattle.relay_apply.specs.declared.insert_target.InsertTarget.TheVariants as insert_target

-- an operation that fails its own checks is refused, whatever is left
pub refused_within : (d : Document) (op : Op) (left : Budget) (cause : Cause)
    → effect d op ≡ Err cause → cause ≢ NoMemory → RefusesWithin d op left cause
refused_within d op left cause fails other = (λ _. inl fails, λ e. absurd (other e))

pub any_left : (d : Document) (op : Op) (left : Budget) (cause : Cause)
    → Refuses (effect d op) cause → RefusesWithin d op left cause
any_left d op left cause h = (λ other. inl (h.0 other), h.1)

-- one that passes is refused if the value of its change is not paid for
pub unpaid_within : (d : Document) (op : Op) (left : Budget) (cause : Cause) (c : Change)
    (v : Document) (w : ℕ) → IsOk (effect d op) → c ∷ [] ≡ changes_of d op
    → change_weight c ≡ w + weight v → IsUnpaid v left cause → RefusesWithin d op left cause
unpaid_within d op left cause c v w passes changes weighs fault = (heavy, λ _. passes)
  where
    whole : weight v + w ≡ changes_weight (c ∷ [])
    whole = omega (arith, weighs)

    heavy : cause ≢ NoMemory → IsOverspent d op left cause
    heavy other =
        let unpaid = fault other in
        inr (
          unpaid.0,
          passes,
          subst (λ cs. paid (changes_weight cs) left ≡ None) changes
              (subst (λ n. paid n left ≡ None) whole (paid_out (weight v) w left unpaid.1)),
        )

pub insertion_weight : (s : InsertTarget) (path : Path) (v : Document)
    → change_weight (insertion s path v) ≡ path_weight path + weight v
insertion_weight insert_target.Root path v = refl
insertion_weight (insert_target.Member true) path v = refl
insertion_weight (insert_target.Member false) path v = refl
insertion_weight (insert_target.Item i) path v = refl

-- the operation is refused for that
pub overspent : (bounds : Bounds) (cs : List Change) (left : Budget) (d : Document) (op : Op)
    (cause : Cause) → paid (changes_weight cs) bounds.changes ≡ Some left
    → IsOverspent d op left cause
    → performed bounds (changes_weight cs) d op ≡ Err cause
overspent bounds cs left d op cause paid_for (inl fails) = rw fails refl
overspent bounds cs left d op cause paid_for (inr (heavy, passes, none)) =
    go (effect d op) refl passes
  where
    over : paid (changes_weight cs + changes_weight (changes_of d op)) bounds.changes ≡ None
    over =
        sym (paid_on (changes_weight cs) (changes_weight (changes_of d op)) bounds.changes left
        paid_for) ∙ none

    go : (r : Result Document Cause) → effect d op ≡ r → IsOk r
        → performed bounds (changes_weight cs) d op ≡ Err cause
    go (Ok e) is fine = rw (is, over, heavy) refl
    go (Err e) is fine = absurd (cc fine)

-- The weight of a translation's operations, change by change.
use Rattle.std.proofs.Common.{◌≡◌, ℕ, ◌+◌, List, [], ◌∷◌, ◌++◌, suc, ◌<◌, length, drop, get_or, map}
use Rattle.std.proofs.Common.{flat_map, Bor, Some, None, refl, sym, ◌∙◌, arith}
use Rattle.std.proofs.lemmas.List.{drop_more}
use Rattle.relay_tree.specs.Budget.{paid}
use Rattle.relay_tree.specs.Document.{Document}
use Rattle.relay_tree.specs.declared.budget.Budget.{Budget}
use Rattle.relay_tree.proofs.Budgets.{paid_on, paid_out}
use Rattle.relay_pointer.specs.Path.{Path}
use Rattle.relay_patch.specs.Weight.{carried, op_weight, ops_weight}
use Rattle.relay_patch.specs.declared.change.Change.{Change}
use Rattle.relay_patch.specs.declared.op.Op.{Op}
use Rattle.relay_patch.specs.declared.op.Op.TheVariants.{Add, Remove, Replace, Move, Copy, Test}
use Rattle.relay_view.specs.declared.slot.Slot.{Slot}
use Rattle.relay_translate.specs.Translate.{in_view, slot_ops, local_from}

-- an operation carries the same value on a view as on the document
pub carried_in_view : (k : ℕ) (q : Path) (o : Op) → carried (in_view k q o) ≡ carried o
carried_in_view k q (Add path v) = refl
carried_in_view k q (Remove path) = refl
carried_in_view k q (Replace path v) = refl
carried_in_view k q (Move from path) = refl
carried_in_view k q (Copy from path) = refl
carried_in_view k q (Test path v) = refl

pub ops_weight_append : (xs ys : List Op) → ops_weight (xs ++ ys) ≡ ops_weight xs + ops_weight ys
ops_weight_append [] ys = omega arith
ops_weight_append (x ∷ xs) ys = let ih = ops_weight_append xs ys in omega (arith, ih)

pub one_weighs : (o : Op) → ops_weight (o ∷ []) ≡ op_weight o
one_weighs o = omega arith

-- the operations on a slot, followed by those on the later slots
pub further_ops : (changes : List Change) (now : Document) (slots : List Slot) (n : ℕ) (s : Slot)
    → n < length slots → s ≡ get_or slots n s
    → local_from n changes now (drop n slots) ≡ slot_ops n s changes now
    ++ local_from (n + 1) changes now (drop (n + 1) slots)
further_ops changes now slots n s within is =
    let next : n + 1 ≡ suc n = omega arith in
    rw (drop_more slots n s within, ← is, next) refl

-- the operations of a change, followed by those of the later changes
pub further_changes : (op : Change → List Op) (changes : List (Bor Change)) (n : ℕ) (c : Bor Change)
    → n < length changes → c ≡ get_or changes n c
    → flat_map op (map (λ c. c.now) (drop n changes)) ≡ op c.now
    ++ flat_map op (map (λ c. c.now) (drop (n + 1) changes))
further_changes op changes n c within is =
    let next : n + 1 ≡ suc n = omega arith in
    rw (drop_more changes n c within, ← is, next) refl

-- a budget that pays for the first operations pays for the others from what is left
pub paid_further : (all done rest : List Op) (x y : Budget) → all ≡ done ++ rest
    → paid (ops_weight done) x ≡ Some y → paid (ops_weight rest) y ≡ paid (ops_weight all) x
paid_further all done rest x y is h =
    paid_on (ops_weight done) (ops_weight rest) x y h
    ∙ sym (rw (is, ops_weight_append done rest) refl)

pub paid_no_further : (all done rest : List Op) (x : Budget) → all ≡ done ++ rest
    → paid (ops_weight done) x ≡ None → paid (ops_weight all) x ≡ None
paid_no_further all done rest x is h =
    rw (is, ops_weight_append done rest) (paid_out (ops_weight done) (ops_weight rest) x h)

-- A document after a patch (RFC 6902, section 5): its operations in order, each within the bounds.
use Rattle.std.specs.Prelude.{ℕ, suc, ◌+◌, ◌≡◌, List, [], ◌∷◌, take, slice_get, Some, Result, Ok}
use Rattle.std.specs.Prelude.{Err, IsOk, is_some, if◌then◌else◌}
use Rattle.relay_tree.specs.Document.{Document}
use Rattle.relay_tree.specs.Budget.{paid}
use Rattle.relay_patch.specs.Walk.{Cause, TooHeavy, then_do}
use Rattle.relay_patch.specs.Patch.{Op, Bounds, effect, within}
use Rattle.relay_patch.specs.Change.{Leads, changes_of, all_changes}
use Rattle.relay_patch.specs.Weight.{changes_weight}
pub use Rattle.relay_patch.specs.declared.fault.ApplyFault.{ApplyFault}

-- the document, if the changes that led to it, which weigh `spent`, are not too heavy and then it
-- is within the bounds itself
abbrev pub afforded : Bounds → ℕ → Document → Result Document Cause
afforded bounds spent d =
    if is_some (paid spent bounds.changes) then within bounds d else Err TooHeavy

abbrev pub refused_at : {A : Type 0} → ℕ → Result A Cause → Result A ApplyFault
refused_at n (Ok x) = Ok x
refused_at n (Err e) = Err (record { at = n; cause = e })

abbrev pub go_on : Result Document ApplyFault → (Document → Result Document ApplyFault)
    → Result Document ApplyFault
go_on (Ok d) f = f d
go_on (Err e) f = Err e

-- the weight of all changes once the operation has made its own, if those before it weigh `spent`
abbrev pub spent_after : ℕ → Document → Op → ℕ
spent_after spent d op = spent + changes_weight (changes_of d op)

-- the document after an operation, which comes after changes that weigh `spent`
abbrev pub performed : Bounds → ℕ → Document → Op → Result Document Cause
performed bounds spent d op = then_do (effect d op) (afforded bounds (spent_after spent d op))

-- the document after the operations in order, the first of them numbered n
abbrev pub after_from : ℕ → ℕ → Bounds → Document → List Op → Result Document ApplyFault
after_from n spent bounds d [] = Ok d
after_from n spent bounds d (op ∷ ops) =
    go_on (refused_at n (performed bounds spent d op))
    (λ e. after_from (suc n) (spent_after spent d op) bounds e ops)

-- the document after a patch, or the first refusal with its place
abbrev pub after : Document → List Op → Bounds → Result Document ApplyFault
after d ops bounds = after_from 0 0 bounds d ops

-- the operations before place n pass, and the one at n is not refused by its own checks
abbrev pub Reaches : Document → List Op → Bounds → ℕ → Type 0
Reaches d ops bounds n =
    (e : Document) × (op : Op) × (after d (take n ops) bounds ≡ Ok e) × (slice_get ops n ≡ Some op)
    × IsOk (effect e op)

-- The changes of an accepted patch lead from the old document to the new one.
abbrev pub IsLed : Type 0
IsLed = (d d' : Document) (ops : List Op) (bounds : Bounds) → after d ops bounds ≡ Ok d'
    → Leads d (all_changes d ops) d'

-- Facts of an operation that passes.
use Rattle.std.proofs.Common.{◌≡◌, ℕ, Bool, true, false, Result, Ok, Err, refl, ap, subst, ◌∙◌}
use Rattle.std.proofs.Common.{is_some, if◌then◌else◌}
use Rattle.relay_tree.specs.Document.{Document, depth, weight}
use Rattle.relay_tree.specs.Budget.{paid}
use Rattle.relay_patch.specs.Walk.{Cause, TooDeep, TooHeavy}
use Rattle.relay_patch.specs.Patch.{Bounds, Op, effect, exceeds, within}
use Rattle.relay_patch.specs.After.{ApplyFault, afforded, spent_after, performed, refused_at, go_on}
use Rattle.relay_patch.proofs.Refusals.{then_ok, not_refused}

pub within_same : (bounds : Bounds) (d e : Document) → within bounds d ≡ Ok e → d ≡ e
within_same bounds d e h =
    let a = not_refused (exceeds bounds.depth (depth d)) TooDeep
    (if exceeds bounds.weight (weight d) then Err TooHeavy else Ok d) e h in
    let b = not_refused (exceeds bounds.weight (weight d)) TooHeavy (Ok d) e a.1 in
    let s = b.1 in
    cc

pub went_on : (n : ℕ) (r : Result Document Cause) (f : Document → Result Document ApplyFault)
    (d' : Document) → go_on (refused_at n r) f ≡ Ok d' → (e : Document) × (r ≡ Ok e) × (f e ≡ Ok d')
went_on n (Ok e) f d' h = (e, refl, h)
went_on n (Err c) f d' h = cc

pub afforded_within : (bounds : Bounds) (spent : ℕ) (d e : Document)
    → afforded bounds spent d ≡ Ok e → within bounds d ≡ Ok e
afforded_within bounds spent d e h = go (is_some (paid spent bounds.changes)) h
  where
    go : (b : Bool) → (if b then within bounds d else Err TooHeavy) ≡ Ok e → within bounds d ≡ Ok e
    go true h = h
    go false h = absurd cc

-- the document after an operation that passes is what the operation makes, and within the bounds
pub performed_is : (bounds : Bounds) (spent : ℕ) (d e : Document) (op : Op)
    → performed bounds spent d op ≡ Ok e → (effect d op ≡ Ok e) × (within bounds e ≡ Ok e)
performed_is bounds spent d e op h =
    let s = then_ok (effect d op) (afforded bounds (spent_after spent d op)) e h in
    let fits : within bounds s.0 ≡ Ok e =
    afforded_within bounds (spent_after spent d op) s.0 e s.2 in
    let same : s.0 ≡ e = within_same bounds s.0 e fits in
    (s.1 ∙ ap Ok same, subst (λ x. within bounds x ≡ Ok e) same fits)

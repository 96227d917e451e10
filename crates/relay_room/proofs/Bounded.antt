-- A patch keeps a document within its bounds.
use Rattle.std.proofs.Common.{◌≡◌, ℕ, suc, List, [], ◌∷◌, Ok, subst}
use Rattle.relay_tree.specs.Document.{Document}
use Rattle.relay_patch.specs.declared.op.Op.{Op}
use Rattle.relay_patch.specs.declared.bounds.Bounds.{Bounds}
use Rattle.relay_patch.specs.Patch.{within}
use Rattle.relay_patch.specs.After.{spent_after, performed, after_from}
use Rattle.relay_patch.proofs.Passed.{went_on, performed_is}

pub after_from_within : (ops : List Op) (n spent : ℕ) (bounds : Bounds) (d d' : Document)
    → within bounds d ≡ Ok d → after_from n spent bounds d ops ≡ Ok d' → within bounds d' ≡ Ok d'
after_from_within [] n spent bounds d d' inside h =
    let same : d ≡ d' = cc in
    subst (λ e. within bounds e ≡ Ok e) same inside
after_from_within (op ∷ ops) n spent bounds d d' inside h =
    let now = spent_after spent d op in
    let s = went_on n (performed bounds spent d op) (λ e.
    after_from (suc n) now bounds e ops) d' h in
    after_from_within ops (suc n) now bounds s.0 d' (performed_is bounds spent d s.0 op s.1).1 s.2

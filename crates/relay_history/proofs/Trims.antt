-- Laws of trimming: what a history still holds after its oldest revisions are forgotten.
use Rattle.std.proofs.Common.{◌≡◌, ℕ, zero, suc, ◌-◌, ◌≤◌, true, false, List, [], ◌∷◌, length, take}
use Rattle.std.proofs.Common.{slice_get, Option, Some, None, refl, sym, ap, ◌∙◌, arith}
use Rattle.std.specs.List.{sum_by}
use Rattle.std.specs.Option.{is_none}
use Rattle.std.proofs.lemmas.List.{take-take}
use Rattle.relay_tree.specs.declared.budget.Budget.{Budget}
use Rattle.relay_tree.specs.declared.budget.Budget.TheVariants.{Unbounded}
use Rattle.relay_tree.specs.Budget.{paid}
use Rattle.relay_patch.specs.declared.change.Change.{Change}
use Rattle.relay_history.specs.History.{Past, IsHistory, Reaches, in_order, changes_since}
use Rattle.relay_history.specs.Trimmed.{revision_weight, afforded, trimmed}
use Rattle.relay_history.specs.Representation.{without_oldest}
use Rattle.relay_history.proofs.Afforded.{afforded_unbounded, afforded_fewer, afforded_front}
use Rattle.relay_history.proofs.Afforded.{afforded_all, afforded_without_oldest}

-- a history with fewer revisions keeps the invariant
pub fewer_is_history : (past : Past) (held : List (List Change)) → length held ≤ length past.changes
    → IsHistory past → IsHistory (record past { changes = held })
fewer_is_history past held fewer is =
    let within = is.within in
    let made = is.made in
    record {
      limited = is.limited;
      within = omega (arith, fewer, within);
      made = omega (arith, fewer, made);
      last = is.last;
    }

pub trimmed_is_history : (budget : Budget) (past : Past) → IsHistory past
    → IsHistory (trimmed budget past)
trimmed_is_history budget past is =
    fewer_is_history past (afforded budget past.changes) (afforded_fewer budget past.changes) is

-- at most as many revisions are held as before
pub trimmed_held : (budget : Budget) (past : Past)
    → length (trimmed budget past).changes ≤ length past.changes
trimmed_held budget past = afforded_fewer budget past.changes

-- a revision that is reached after trimming was reached before
pub trimmed_reaches : (budget : Budget) (past : Past) (rev : ℕ) → Reaches (trimmed budget past) rev
    → Reaches past rev
trimmed_reaches budget past rev reaches =
    let back = reaches.back in
    record { back = omega (arith, back, afforded_fewer budget past.changes); made = reaches.made }

-- and the changes since that revision are the same
pub trimmed_changes_since : (budget : Budget) (past : Past) (rev : ℕ)
    → Reaches (trimmed budget past) rev
    → changes_since rev (trimmed budget past) ≡ changes_since rev past
trimmed_changes_since budget past rev reaches =
    let held = length (afforded budget past.changes) in
    let back = reaches.back in
    let within : past.newest - rev ≤ held = omega (arith, back) in
    ap (λ revisions. in_order (take (past.newest - rev) revisions))
    (afforded_front budget past.changes)
    ∙ ap in_order (take-take (past.newest - rev) held past.changes within)

-- a revision that is still held is at the same place
pub trimmed_slice_get : (budget : Budget) (past : Past) (i : ℕ) (changes : List Change)
    → slice_get (trimmed budget past).changes i ≡ Some changes
    → slice_get past.changes i ≡ Some changes
trimmed_slice_get budget past i changes is =
    front past.changes (length (afforded budget past.changes)) i
    (sym (ap (λ revisions. slice_get revisions i) (afforded_front budget past.changes)) ∙ is)
  where
    front : (revisions : List (List Change)) (n i : ℕ)
        → slice_get (take n revisions) i ≡ Some changes → slice_get revisions i ≡ Some changes
    front revisions zero i held = cc
    front [] (suc n) i held = cc
    front (newest ∷ older) (suc n) zero held = held
    front (newest ∷ older) (suc n) (suc i) held = front older n i held

-- nothing is forgotten if there is no bound
pub trimmed_unbounded : (past : Past) → trimmed Unbounded past ≡ past
trimmed_unbounded past =
    ap (λ held. record past { changes = held }) (afforded_unbounded past.changes)

-- nothing is forgotten if the budget pays for all revisions
pub trimmed_all : (budget : Budget) (past : Past)
    → is_none (paid (sum_by revision_weight past.changes) budget) ≡ false
    → trimmed budget past ≡ past
trimmed_all budget past within = go (paid (sum_by revision_weight past.changes) budget) refl within
  where
    go : (o : Option Budget) → paid (sum_by revision_weight past.changes) budget ≡ o
        → is_none o ≡ false → trimmed budget past ≡ past
    go (Some after) is known =
        ap (λ held. record past { changes = held }) (afforded_all budget past.changes after is)
    go None is known = absurd cc

-- the oldest revision is forgotten if it does not
pub trimmed_without_oldest : (budget : Budget) (past : Past)
    → is_none (paid (sum_by revision_weight past.changes) budget) ≡ true
    → trimmed budget (without_oldest past) ≡ trimmed budget past
trimmed_without_oldest budget past over =
    go (paid (sum_by revision_weight past.changes) budget) refl over
  where
    go : (o : Option Budget) → paid (sum_by revision_weight past.changes) budget ≡ o
        → is_none o ≡ true
        → trimmed budget (without_oldest past) ≡ trimmed budget past
    go (Some after) is known = absurd cc
    go None is known =
        ap (λ held. record past { changes = held }) (afforded_without_oldest budget past.changes is)

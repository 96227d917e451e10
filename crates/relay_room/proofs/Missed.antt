-- The update that brings the view of an earlier revision to the present one.
use Rattle.std.proofs.Common.{◌≡◌, Option, Some, None, Ok, option_map, nat_le, ℕ, suc, ◌-◌, List}
use Rattle.std.proofs.Common.{[], ◌∷◌, ◌++◌, take, Bool, true, false, nat_lt, if◌then◌else◌, refl}
use Rattle.std.proofs.Common.{arith}
use Rattle.std.proofs.lemmas.Bool.Decides.{nat_tests}
use Rattle.std.specs.List.{AllByRecursion}
use Rattle.relay_tree.specs.Budget.{paid}
use Rattle.relay_tree.specs.Document.{Document}
use Rattle.relay_tree.specs.declared.budget.Budget.{Budget}
use Rattle.relay_tree.specs.declared.budget.Budget.TheVariants.{Unbounded, Left}
use Rattle.relay_view.specs.View.{View, view}
use Rattle.relay_patch.specs.declared.bounds.TheConstants.Bounds.{DOCUMENT}
use Rattle.relay_patch.specs.declared.op.Op.{Op}
use Rattle.relay_patch.specs.declared.change.Change.{Change}
use Rattle.relay_patch.proofs.Fits.{within_flat}
use Rattle.relay_patch.specs.Patch.{free}
use Rattle.relay_patch.specs.After.{after}
use Rattle.relay_patch.specs.Weight.{ops_weight}
use Rattle.relay_translate.specs.Translate.{local_from, afforded}
use Rattle.relay_translate.proofs.Slots.{translation}
use Rattle.relay_translate.proofs.Sizes.{fits_with_changes}
use Rattle.relay_history.specs.History.{in_order, oldest, changes_since}
use Rattle.relay_history.proofs.Growing.{changes_since-newest}
use Rattle.relay_room.specs.Room.{State, IsRoom, Fit, revision}
use Rattle.relay_room.specs.CatchUp.{missed, patch_or_nothing, patch_or_snapshot, caught_up_within}
use Rattle.relay_room.specs.CatchUp.{MakesPresent, LeadsOn, IsSent, Fits}
use Rattle.relay_room.specs.declared.catch_up.CatchUp.TheVariants.{Nothing, Snapshot}

nothing_from : (k : ℕ) (now : Document) (pointers : View) → local_from k [] now pointers ≡ []
nothing_from k now [] = refl
nothing_from k now (q ∷ pointers) = nothing_from (suc k) now pointers

missed_present : (room : State) (pointers : View) → missed room (revision room) pointers ≡ []
missed_present room pointers =
    rw (changes_since-newest room.history) (nothing_from 0 room.document pointers)

-- a list without operations weighs nothing
pub afforded_none : (budget : Budget) → afforded budget [] ≡ Some []
afforded_none Unbounded = refl
afforded_none (Left n) = let free : nat_le 0 n ≡ true = grind (arith, nat_tests) in rw free refl

-- nothing was missed since the present revision
pub caught_up_present : (budget : Budget) (room : State) (rev : ℕ) (pointers : View)
    → rev ≡ revision room → caught_up_within budget room rev pointers ≡ Nothing
caught_up_present budget room rev pointers now =
    rw (now, missed_present room pointers, held, afforded_none budget) refl
  where
    held : nat_lt (revision room) (oldest room.history) ≡ false
    held = grind (arith, nat_tests)

-- operations that make the present view also make it as an update
pub makes_present : (room : State) (pointers : View) (d : Document) (ops : List Op)
    → after (view pointers d) ops free ≡ Ok (view pointers room.document)
    → MakesPresent room pointers d (patch_or_nothing ops)
makes_present room pointers d [] h = cc h
makes_present room pointers d (op ∷ ops) h = h

-- also if a snapshot replaces operations that are too heavy
pub makes_within : (budget : Budget) (room : State) (pointers : View) (d : Document)
    (ops : List Op) → after (view pointers d) ops free ≡ Ok (view pointers room.document)
    → MakesPresent room pointers d (patch_or_snapshot (afforded budget ops))
makes_within budget room pointers d ops h = go (paid (ops_weight ops) budget)
  where
    go : (left : Option Budget)
        → MakesPresent room pointers d (patch_or_snapshot (option_map (λ x. ops) left))
    go (Some left) = makes_present room pointers d ops h
    go None = tt

-- the update brings every earlier view to the present one
pub caught_up_leads : (budget : Budget) (room : State) (rev : ℕ) (pointers : View)
    → LeadsOn room rev pointers (caught_up_within budget room rev pointers)
caught_up_leads budget room rev pointers d leads = go (nat_lt rev (oldest room.history))
  where
    changes : List Change
    changes = changes_since rev room.history

    go : (x : Bool) → MakesPresent room pointers d (if x then Snapshot
        else patch_or_snapshot (afforded budget (missed room rev pointers)))
    go true = tt
    go false =
        makes_within budget room pointers d (missed room rev pointers)
        (translation changes room.document pointers d leads)

fit_append : (a b : List Change) → Fit a → Fit b → Fit (a ++ b)
fit_append [] b h k = k
fit_append (c ∷ a) b h k = (h.0, fit_append a b h.1 k)

fit_since : (n : ℕ) (revisions : List (List Change)) → AllByRecursion Fit revisions
    → Fit (in_order (take n revisions))
fit_since (suc n) (changes ∷ revisions) h =
    fit_append (in_order (take n revisions)) changes (fit_since n revisions h.1) h.0
fit_since _ _ h = tt

fit_patch : (ops : List Op) → AllByRecursion IsSent ops → Fits (patch_or_nothing ops)
fit_patch [] h = tt
fit_patch (op ∷ ops) h = h

pub fit_within : (budget : Budget) (ops : List Op) → AllByRecursion IsSent ops
    → Fits (patch_or_snapshot (afforded budget ops))
fit_within budget ops h = go (paid (ops_weight ops) budget)
  where
    go : (left : Option Budget) → Fits (patch_or_snapshot (option_map (λ x. ops) left))
    go (Some left) = fit_patch ops h
    go None = tt

-- the update has short paths and shallow values
pub caught_up_fits : (budget : Budget) (room : State) (rev : ℕ) (pointers : View) → IsRoom room
    → Fits (caught_up_within budget room rev pointers)
caught_up_fits budget room rev pointers is = go (nat_lt rev (oldest room.history))
  where
    changes : List Change
    changes = changes_since rev room.history

    go : (x : Bool) → Fits (if x then Snapshot
        else patch_or_snapshot (afforded budget (missed room rev pointers)))
    go true = tt
    go false =
        fit_within budget (missed room rev pointers)
        (fits_with_changes changes room.document pointers DOCUMENT.depth DOCUMENT.depth
        (fit_since (room.history.newest - rev) room.history.changes is.fit)
        (within_flat DOCUMENT room.document room.document (omega arith) is.within))

-- A new room keeps the invariant, and so does a room after each revision.
use Rattle.std.specs.List.{AllByRecursion}
use Rattle.std.proofs.Common.{◌≡◌, ℕ, zero, suc, ◌+◌, ◌-◌, ◌<◌, ◌≤◌, ◌⊎◌, inl, inr, List, [], ◌∷◌}
use Rattle.std.proofs.Common.{length, take, false, Ok, refl, arith}
use Rattle.std.proofs.lemmas.Bool.{cases_lt}
use Rattle.relay_tree.specs.Document.{Document, depth, weight}
use Rattle.relay_tree.specs.declared.budget.Budget.{Budget}
use Rattle.relay_patch.specs.declared.bounds.TheConstants.Bounds.{DOCUMENT}
use Rattle.relay_patch.specs.declared.change.Change.{Change}
use Rattle.relay_patch.specs.Patch.{exceeds, within}
use Rattle.relay_patch.specs.Change.{Leads}
use Rattle.relay_patch.proofs.Made.{Leads-append}
use Rattle.relay_history.specs.declared.history.TheConstants.{LAST_REVISION}
use Rattle.relay_limits.specs.declared.TheConstants.{MAX_REVISIONS}
use Rattle.relay_history.specs.History.{IsHistory, Reaches, in_order, with_revision, changes_since}
use Rattle.relay_history.specs.Trimmed.{afforded}
use Rattle.relay_history.proofs.Afforded.{afforded_front}
use Rattle.relay_history.proofs.Trims.{trimmed_is_history, trimmed_reaches, trimmed_changes_since}
use Rattle.relay_history.proofs.Growing.{held-with_revision, changes_since-newest}
use Rattle.relay_history.proofs.Growing.{changes_since-with_revision}
use Rattle.relay_room.specs.Room.{State, IsRoom, Fit, begun, trimmed}

no_changes : (n : ℕ) → in_order (take n []) ≡ []
no_changes zero = refl
no_changes (suc n) = refl

pub begun_within : (document : Document) (rev limit : ℕ) → within DOCUMENT document ≡ Ok document
    → 1 ≤ limit → limit ≤ MAX_REVISIONS → rev ≤ LAST_REVISION
    → IsRoom (begun document rev limit)
begun_within document rev limit inside least most last = record {
  history =
      record { limited = (least, most); within = omega arith; made = omega arith; last = last };
  within = inside;
  fit = tt;
  led = λ r reaches. (document, rw (no_changes (rev - r)) refl);
}

pub begun_is_room : (document : Document) (rev limit : ℕ)
    → exceeds DOCUMENT.depth (depth document) ≡ false
    → exceeds DOCUMENT.weight (weight document) ≡ false
    → 1 ≤ limit → limit ≤ MAX_REVISIONS → rev ≤ LAST_REVISION
    → IsRoom (begun document rev limit)
begun_is_room document rev limit flat light least most last =
    begun_within document rev limit (rw (flat, light) refl) least most last

fit_take : (n : ℕ) (revisions : List (List Change)) → AllByRecursion Fit revisions
    → AllByRecursion Fit (take n revisions)
fit_take (suc n) (changes ∷ revisions) h = (h.0, fit_take n revisions h.1)
fit_take _ _ h = tt

-- a room whose history is trimmed keeps the invariant
pub trimmed_is_room : (budget : Budget) (room : State) → IsRoom room → IsRoom (trimmed budget room)
trimmed_is_room budget room is = record {
  history = trimmed_is_history budget room.history is.history;
  within = is.within;
  fit =
      rw (afforded_front budget room.history.changes)
      (fit_take (length (afforded budget room.history.changes)) room.history.changes is.fit);
  led =
      λ rev reaches.
      rw (trimmed_changes_since budget room.history rev reaches)
      (is.led rev (trimmed_reaches budget room.history rev reaches));
}

pub edited_is_room : (room : State) (changes : List Change) (document : Document)
    → IsRoom room → IsHistory (with_revision changes room.history)
    → within DOCUMENT document ≡ Ok document → Fit changes → Leads room.document changes document
    → IsRoom (record { document = document; history = with_revision changes room.history })
edited_is_room room changes document was is inside fit leads = record {
  history = is;
  within = inside;
  fit = fit_take room.history.limit (changes ∷ room.history.changes) (fit, was.fit);
  led = λ rev reaches. from rev reaches (cases_lt room.history.newest rev);
}
  where
    next : State
    next = record { document = document; history = with_revision changes room.history }

    from : (rev : ℕ) → Reaches next.history rev
        → (room.history.newest < rev) ⊎ (rev ≤ room.history.newest)
        → (d : Document) × Leads d (changes_since rev next.history) document
    from rev reaches (inl above) =
        let newest : rev ≡ room.history.newest + 1 = omega (arith, above, reaches.made) in
        (document, rw (newest, changes_since-newest next.history) refl)
    from rev reaches (inr below) =
        let back = reaches.back in
        let held = held-with_revision changes room.history in
        let earlier : Reaches room.history rev =
        record { back = omega (arith, back, held, below); made = below } in
        let led = was.led rev earlier in (
          led.0,
          rw (changes_since-with_revision rev changes room.history below reaches)
              (Leads-append (changes_since rev room.history) changes led.0 room.document document
              led.1 leads),
        )

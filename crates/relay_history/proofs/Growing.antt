-- Laws of pushing: how one more revision extends the changes after an earlier one.
use Rattle.std.specs.Prelude.{◌≡◌, ℕ, zero, suc, ◌+◌, ◌-◌, ◌<◌, ◌≤◌, min, List, [], ◌∷◌, ◌++◌, take}
use Rattle.std.specs.Prelude.{length, refl}
use Rattle.std.proofs.Common.{arith, sym, ap, add-one}
use Rattle.std.proofs.lemmas.List.{length-take}
use Rattle.relay_patch.specs.declared.change.Change.{Change}
use Rattle.relay_history.specs.declared.history.TheConstants.{LAST_REVISION}
use Rattle.relay_history.specs.History.{Past, IsHistory, Reaches, in_order, with_revision}
use Rattle.relay_history.specs.History.{changes_since}

-- a prefix of a prefix
take_shorter : {X : Type 0} (n m : ℕ) (xs : List X) → n ≤ m → take n (take m xs) ≡ take n xs
take_shorter (suc n) zero xs h = absurd (omega arith)
take_shorter (suc n) (suc m) (x ∷ xs) h = ap (λ ys. x ∷ ys) (take_shorter n m xs (omega arith))
take_shorter _ _ _ h = refl

-- nothing changed after the newest revision
pub changes_since-newest : (past : Past) → changes_since past.newest past ≡ []
changes_since-newest past = let none : past.newest - past.newest ≡ 0 = omega arith in rw none refl

-- the number of held revisions: one more, up to the limit
pub held-with_revision : (changes : List Change) (past : Past)
    → length (with_revision changes past).changes ≡ min past.limit (length past.changes + 1)
held-with_revision changes past =
    rw length-take (ap (min past.limit) (sym (add-one (length past.changes))))

-- a history with one more revision keeps the invariant
pub with_revision-is_history : (changes : List Change) (past : Past) → past.newest < LAST_REVISION
    → IsHistory past
    → IsHistory (with_revision changes past)
with_revision-is_history changes past early is =
    let held = held-with_revision changes past in
    let made = is.made in
    record {
      limited = is.limited;
      within = omega (arith, held);
      made = omega (arith, held, made);
      last = omega (arith, early);
    }

-- the newest revision's changes come last
pub changes_since-with_revision : (rev : ℕ) (changes : List Change) (past : Past)
    → rev ≤ past.newest → Reaches (with_revision changes past) rev
    → changes_since rev (with_revision changes past) ≡ changes_since rev past ++ changes
changes_since-with_revision rev changes past earlier reaches =
    let held = held-with_revision changes past in
    let back = reaches.back in
    let count : past.newest + 1 - rev ≡ suc (past.newest - rev) = omega arith in
    let fits : suc (past.newest - rev) ≤ past.limit = omega arith in
    rw count (ap in_order
    (take_shorter (suc (past.newest - rev)) past.limit (changes ∷ past.changes) fits))

-- Cases on what a test or a search finds.
use Rattle.std.proofs.Common.{◌≡◌, ◌≢◌, ℕ, ◌==◌, inl, inr, Bool, true, false, Option, Some, None}
use Rattle.std.proofs.Common.{refl, subst, if◌then◌else◌}
use Rattle.std.proofs.lemmas.Bool.Decides.{eqb_tells}

-- cases on whether two numbers are the same
pub by_number : (P : ℕ → Bool → Type 0) (s t : ℕ) → P s true → (s ≢ t → P t false) → P t (s == t)
by_number P s t same other =
    elim (eqb_tells s t) [
      | inl h ↦ rw h.0 (subst (λ u. P u true) h.1 same)
      | inr h ↦ rw h.0 (other h.1)
    ]

-- cases on whether there is a value
pub by_finding : {X : Type 0} (P : Type 0) (o : Option X) → (o ≡ None → P)
    → ((x : X) → o ≡ Some x → P) → P
by_finding P None none some = none refl
by_finding P (Some x) none some = some x refl

-- what follows if an index is found or not
pub tested : (b : Bool) (n i : ℕ) → (if b then Some n else None) ≡ Some i → (b ≡ true) × (i ≡ n)
tested true n i h = (refl, cc)
tested false n i h = absurd (cc h)

pub untested : (b : Bool) (n : ℕ) → (if b then Some n else None) ≡ None → b ≡ false
untested true n h = absurd (cc h)
untested false n h = refl

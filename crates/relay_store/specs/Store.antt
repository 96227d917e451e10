-- The outcomes of a crash for a store, and the causes for which a call of a store fails.
use Rattle.std.specs.Prelude.{◌≡◌, ◌⊎◌, ◌≤◌, ◌+◌, ◌-◌, ◌^◌, min, ℕ, List, Result, IsErrOf}
use Rattle.relay_store.specs.declared.change.Change.{Change}
use Rattle.relay_store.specs.declared.fault.StoreFault.{StoreFault}
use Rattle.relay_store.specs.declared.fault.StoreFault.TheVariants.{Failed, Full}
use Rattle.relay_store.specs.Kept.{Kept, committed}

-- a crash leaves this and nothing else
abbrev pub Only : Kept → (Kept → Type 0) → Type 0
Only kept may_leave = (left : Kept) → may_leave left → left ≡ kept

-- a crash leaves what was kept before the changes, or what is kept after all of them
abbrev pub BeforeOrAfter : Kept → List (Change (List ℕ)) → (Kept → Type 0) → Type 0
BeforeOrAfter kept changes may_leave =
    (left : Kept) → may_leave left → (left ≡ kept) ⊎ (left ≡ committed kept changes)

-- the count of failures rose, unless it is at the top of 64 bits
abbrev pub Rose : ℕ → ℕ → Type 0
Rose before now = min (before + 1) (2 ^ 64 - 1) ≤ now

-- no failure is forgotten, and a call says that the disk failed, or is full, only if it has failed
-- since
pub record HasCause {T : Type 0} (before now : ℕ) (result : Result T StoreFault) : Type 0 where
  pub counts : before ≤ now
  pub failed : IsErrOf result Failed → Rose before now
  pub full : IsErrOf result Full → Rose before now

-- Calls that commit nothing, one after the other.
use Rattle.std.proofs.Common.{◌≤◌, inl, inr, ℕ, Err, arith}
use Rattle.sqlite_disk.specs.Disk.{MoreFaults}
use Rattle.sqlite_trees.specs.declared.error.StoreError.{StoreError}
use Rattle.sqlite_trees.specs.declared.error.StoreError.TheVariants as of
use Rattle.sqlite_trees.specs.Tree.{Trees}
use Rattle.sqlite_trees.specs.View.{View, IsQuiet}
use Rattle.sqlite_trees.specs.View as trees
use Rattle.relay_store.specs.Store.{HasCause}
use Rattle.relay_store_sqlite.specs.Fault.{fault_of}

pub quiet_then : {S : Type 0} {view : S → View} {faults : S → ℕ} {recovers : S → Trees → Type 0}
    {shielded : S → Type 0} {a b c : S} → IsQuiet view faults recovers shielded a b
    → IsQuiet view faults recovers shielded b c → IsQuiet view faults recovers shielded a c
quiet_then one two = record {
  counts = omega (arith, one.counts, two.counts);
  closes = λ clean h. elim (one.closes (omega (arith, two.clean)) h) [
    | inl on ↦ elim (two.closes clean on) [
      | inl still ↦ inl still
      | inr fault ↦ inr (omega (arith, one.counts))
    ]
    | inr fault ↦ inr (omega (arith, two.counts))
  ];
  clean = omega (arith, one.clean, two.clean);
  shield = λ h. two.shield (one.shield h);
  outcomes = λ db h. one.outcomes db (two.outcomes db h);
}

-- a cause of the second call is one of both
pub cause_then : {T : Type 0} (v : View) (old mid new : ℕ) (error : StoreError) → old ≤ mid
    → mid ≤ new → trees.HasCause v (MoreFaults mid new) ⊥ error
    → HasCause {T = T} old new (Err (fault_of error))
cause_then v old mid new of.OutOfMemory first second cause =
    record { counts = omega (arith, first, second); failed = λ is. cc; full = λ is. cc }
cause_then v old mid new of.Io first second cause = record {
  counts = omega (arith, first, second);
  failed = λ is. omega (arith, first, cause);
  full = λ is. cc;
}
cause_then v old mid new of.Corrupt first second cause =
    record { counts = omega (arith, first, second); failed = λ is. cc; full = λ is. cc }
cause_then v old mid new of.Full first second cause = record {
  counts = omega (arith, first, second);
  failed = λ is. cc;
  full = λ is. omega (arith, first, cause);
}
cause_then v old mid new of.Broken first second cause =
    record { counts = omega (arith, first, second); failed = λ is. cc; full = λ is. cc }
cause_then v old mid new of.Unstorable first second cause =
    record { counts = omega (arith, first, second); failed = λ is. cc; full = λ is. cc }

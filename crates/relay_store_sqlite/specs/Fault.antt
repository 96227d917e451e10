-- The faults of a store over a database.
use Rattle.std.specs.Prelude.{◌≡◌, ◌⊎◌}
use Rattle.sqlite_trees.specs.declared.error.StoreError.{StoreError}
use Rattle.sqlite_trees.specs.declared.error.StoreError.TheVariants as of
use Rattle.relay_store.specs.declared.fault.StoreFault.{StoreFault}
use Rattle.relay_store.specs.declared.fault.StoreFault.TheVariants.{NoMemory, TooBig, Failed, Full}
use Rattle.relay_store.specs.declared.fault.StoreFault.TheVariants.{Damaged, Closed}

-- a fault that no disk has caused
abbrev pub IsOwn : StoreFault → Type 0
IsOwn fault = (fault ≡ NoMemory) ⊎ (fault ≡ TooBig)

-- a row that is no change, or no memory for its texts
abbrev pub IsUnread : StoreFault → Type 0
IsUnread fault = (fault ≡ NoMemory) ⊎ (fault ≡ Damaged)

-- the fault that an error of the database is told as
abbrev pub fault_of : StoreError → StoreFault
fault_of of.OutOfMemory = NoMemory
fault_of of.Io = Failed
fault_of of.Corrupt = Damaged
fault_of of.Full = Full
fault_of of.Broken = Closed
fault_of of.Unstorable = TooBig

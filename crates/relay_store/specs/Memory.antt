-- A store in memory as contracts see it.
use Rattle.std.specs.Prelude.{map}
use Rattle.relay_store.specs.Kept.{Kept, begun, committed}
use Rattle.relay_store.specs.Texts.{owned}
use Rattle.relay_store.specs.declared.memory.MemoryStore.{MemoryStore}

-- what its changes make of a new store
abbrev pub kept_in : MemoryStore → Kept
kept_in store = committed (begun store.epoch) (map owned store.changes.items)

use Rattle.std.proofs.Common.{ℕ, map, take}
use Rattle.relay_store.specs.Kept.{begun, committed}
use Rattle.relay_store.specs.Texts.{owned}
use Rattle.relay_keeping.specs.Clients.{AreClientsOf}
use Rattle.relay_keeping.proofs.clients.Clients.of.Given as goal

-- the clients of what the changes so far make
abbrev pub invariant-loop-change : goal.invariant-loop-change
invariant-loop-change l = (epoch : ℕ) → AreClientsOf
    (committed (begun epoch) (map owned (take l.change-index l.changes.items))) l.clients

-- the wills of what the changes so far make
use Rattle.std.proofs.Common.{ℕ, map, take}
use Rattle.relay_store.specs.Kept.{begun, committed}
use Rattle.relay_store.specs.Texts.{owned}
use Rattle.relay_keeping.specs.LeftWills.{AreLeft}
use Rattle.relay_keeping.proofs.left_wills.LeftWills.of.Given as goal

abbrev pub invariant-loop-change : goal.invariant-loop-change
invariant-loop-change l = (epoch : ℕ) → AreLeft
    (committed (begun epoch) (map owned (take l.change-index l.changes.items))) l.left

use Rattle.std.proofs.Common.{◌≡◌, map, take}
use Rattle.relay_store.specs.Texts.{lent, owned}
use Rattle.relay_store.proofs.memory.copied.Given as goal

abbrev pub invariant-loop-change : goal.invariant-loop-change
invariant-loop-change l = map owned l.all.items ≡ map lent (take l.change-index l.changes)

use Rattle.std.proofs.Common.{take}
use Rattle.std.specs.List.{list_any}
use Rattle.relay_translate.specs.Watches.{touches}
use Rattle.relay_translate.specs.SlotIndex.{Found}
use Rattle.relay_translate.proofs.watch_index.sessions_touched.Given as goal

abbrev pub invariant-loop-change : goal.invariant-loop-change
invariant-loop-change l =
    Found (λ v. list_any (λ c. touches c.now v) (take l.change-index l.changes)) l.index
    l.sessions.items

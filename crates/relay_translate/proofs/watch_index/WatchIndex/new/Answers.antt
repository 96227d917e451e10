use Rattle.std.proofs.Common.{subst, sym, ap}
use Rattle.std.specs.FinMap.{from_entries}
use Rattle.relay_translate.specs.SlotIndex.{IsIndex}
use Rattle.relay_translate.proofs.Watched.{index_none, within_none}
use Rattle.relay_translate.proofs.EachWatched.{each_none}
use Rattle.relay_translate.proofs.watch_index.WatchIndex.new.Goals as goal

pub invariant_of-result : goal.invariant_of-result
invariant_of-result c = (
  subst (IsIndex c.new-2.result) (sym (ap from_entries c.new.ensures.empty))
      (index_none c.new-2.result c.new-2.ensures.empty),
  within_none c.new-2.result 0 c.new-2.ensures.empty,
  each_none c.new-2.result c.new-2.ensures.empty,
)

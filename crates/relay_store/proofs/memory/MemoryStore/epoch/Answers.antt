use Rattle.std.proofs.Common.{sym, map}
use Rattle.relay_store.specs.Kept.{begun}
use Rattle.relay_store.specs.Texts.{owned}
use Rattle.relay_store.proofs.Laws.{epoch_committed}
use Rattle.relay_store.proofs.memory.MemoryStore.epoch.Goals as goal

pub returns : goal.returns
returns c =
    let m = c.args.self.now in
    sym (epoch_committed (begun m.epoch) (map owned m.changes.items))

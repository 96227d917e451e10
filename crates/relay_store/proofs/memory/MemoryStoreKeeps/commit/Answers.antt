use Rattle.std.proofs.Common.{◌∙◌, ap, map}
use Rattle.relay_store.specs.Kept.{begun, committed}
use Rattle.relay_store.specs.Texts.{lent, owned}
use Rattle.relay_store.proofs.Laws.{grown}
use Rattle.relay_store.proofs.memory.MemoryStoreKeeps.commit.Goals as goal

pub returns-clause-kept : goal.returns-clause-kept
returns-clause-kept c _ =
    let m = c.args.self.now in
    ap (λ items. committed (begun m.epoch) (map owned items)) c.in_ok-append.ensures.items
    ∙ grown owned (begun m.epoch) m.changes.items c.in_ok-more.more.items
    (map lent c.args.changes.now) c.in_ok-more.ensures

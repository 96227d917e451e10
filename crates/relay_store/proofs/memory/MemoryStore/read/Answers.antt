use Rattle.std.proofs.Common.{◌∙◌, sym, ap, map}
use Rattle.relay_store.specs.Kept.{begun, committed}
use Rattle.relay_store.specs.Texts.{owned}
use Rattle.relay_store.proofs.Laws.{epoch_committed}
use Rattle.relay_store.proofs.memory.MemoryStore.read.Goals as goal

pub returns : goal.returns
returns c =
    let m = c.args.self.now in
    let first = map owned m.changes.items in
    let epoch = epoch_committed (begun m.epoch) first in
    ap (committed (begun m.epoch))
    (ap (map owned) (sym c.deref.ensures.value) ∙ sym c.in_ok-read_back.ensures)
    ∙ ap (λ e. committed (begun e) (map owned c.in_ok-read_back.field-0.items)) (sym epoch)

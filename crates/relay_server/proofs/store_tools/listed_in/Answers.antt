use Rattle.std.proofs.Common.{map, sym}
use Rattle.relay_store.specs.Kept.{begun, committed}
use Rattle.relay_store.specs.Texts.{owned}
use Rattle.relay_store.proofs.Laws.{epoch_committed}
use Rattle.relay_server.proofs.store_tools.listed_in.Goals as goal

pub returns : goal.returns
returns g c =
    let made = c.args.made.now in
    let changes = map owned made.changes.items in (
      committed (begun made.epoch) changes,
      sym (epoch_committed (begun made.epoch) changes),
      c.in_ok-of.ensures made.epoch,
    )

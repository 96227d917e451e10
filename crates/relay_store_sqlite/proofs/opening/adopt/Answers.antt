use Rattle.std.proofs.Common.{◌∙◌, ap, map, sym}
use Rattle.relay_store.specs.Kept.{begun, committed}
use Rattle.relay_store.proofs.Laws.{epoch_committed}
use Rattle.relay_store_sqlite.specs.Rows.{change_of, epoch_of}
use Rattle.relay_store_sqlite.specs.declared.write.TheConstants.{META_TREE, CHANGE_TREE}
use Rattle.relay_store_sqlite.proofs.opening.adopt.Goals as goal

pub returns-in-Ok-clause-epoch : goal.returns-in-Ok-clause-epoch
returns-in-Ok-clause-epoch g c clean =
    let trees = (g.S.Store.view c.in-Ok.store.store).committed in
    c.in-Ok.ensures.epoch clean
    ∙ sym (epoch_committed (begun (epoch_of (trees META_TREE))) (map change_of (trees CHANGE_TREE)))

pub returns-in-Ok-clause-kept : goal.returns-in-Ok-clause-kept
returns-in-Ok-clause-kept g c clean =
    let trees = (g.S.Store.view c.in-Ok.store.store).committed in
    ap (λ epoch. committed (begun epoch) (map change_of (trees CHANGE_TREE)))
    (sym (c.in-Ok.ensures.epoch clean))
    ∙ ap (committed (begun c.in-Ok.epoch)) (sym (c.in-Ok.ensures.changes clean))

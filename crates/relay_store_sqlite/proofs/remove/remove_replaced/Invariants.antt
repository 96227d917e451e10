use Rattle.sqlite_trees.specs.View.{IsClean, IsQuiet}
use Rattle.relay_store.specs.Texts.{lent}
use Rattle.relay_store_sqlite.specs.Table.{Spares}
use Rattle.relay_store_sqlite.proofs.remove.remove_replaced.Given as goal

abbrev pub invariant-loop-id : goal.invariant-loop-id
invariant-loop-id g l =
    let view = g.S.Store.view in
    record {
      spared : IsClean (view l.store)
          → Spares (view l.fn.store) (view l.store) (lent l.change);
      quiet : IsQuiet view g.S.Store.faults g.S.Store.recovers g.S.Store.is_shielded l.fn.store
          l.store;
    }

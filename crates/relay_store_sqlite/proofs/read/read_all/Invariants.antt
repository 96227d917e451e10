use Rattle.std.proofs.Common.{map}
use Rattle.std.specs.Prelude.{IsSome}
use Rattle.sqlite_trees.specs.View.{IsClean, IsQuiet}
use Rattle.relay_store.specs.Texts.{owned}
use Rattle.relay_store_sqlite.specs.Table.{IsReading}
use Rattle.relay_store_sqlite.specs.declared.read.TheConstants.{CURSOR}
use Rattle.relay_store_sqlite.proofs.read.read_all.Given as goal

abbrev pub invariant-loop : goal.invariant-loop
invariant-loop g l =
    let view = g.S.Store.view in
    record {
      live : IsSome ((view l.store).cursors CURSOR);
      reads : IsClean (view l.store)
          → IsReading (view l.fn.store) (view l.store) (map owned l.all.items) l.next;
      quiet : IsQuiet view g.S.Store.faults g.S.Store.recovers g.S.Store.is_shielded l.fn.store
          l.store;
    }

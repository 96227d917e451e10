use Rattle.std.proofs.Common.{◌≡◌, ◌+◌, map, take}
use Rattle.sqlite_trees.specs.View.{IsClean, IsQuiet}
use Rattle.relay_store.specs.Texts.{lent}
use Rattle.relay_store_sqlite.specs.Table.{AreBelow, Wrote}
use Rattle.relay_store_sqlite.specs.declared.write.TheConstants.{CHANGE_TREE}
use Rattle.relay_store_sqlite.proofs.write.put_all.Given as goal

abbrev pub invariant-loop-change : goal.invariant-loop-change
invariant-loop-change g l =
    let view = g.S.Store.view in
    let done = map lent (take l.change-index l.changes) in
    record {
      id : l.id ≡ l.next + l.change-index;
      wrote : IsClean (view l.store)
          → Wrote (view l.fn.store) (view l.store) (l.next + l.change-index) done;
      below : IsClean (view l.store) → AreBelow l.id ((view l.store).trees CHANGE_TREE);
      quiet : IsQuiet view g.S.Store.faults g.S.Store.recovers g.S.Store.is_shielded l.fn.store
          l.store;
    }

use Rattle.std.proofs.Common.{arith}
use Rattle.sqlite_trees.specs.View.{IsClean}
use Rattle.relay_store.specs.Texts.{lent}
use Rattle.relay_store_sqlite.proofs.Quiet.{quiet_then}
use Rattle.relay_store_sqlite.proofs.Removes.{spares_then}
use Rattle.relay_store_sqlite.proofs.remove.remove_replaced.Goals as goal

pub loop-id-preserved : goal.loop-id-preserved
loop-id-preserved g c =
    let l = c.loop-id in
    let view = g.S.Store.view in
    let quiet = c.in_ok-remove_one.ensures.quiet in
    record {
      spared = λ clean.
          let before : IsClean (view l.store) = omega (arith, quiet.clean) in
          spares_then (view c.args.store.now) (view l.store) (view c.remove_one.new.store)
          (lent c.args.change) (l.invariant.spared before) (c.in_ok-remove_one.ensures.ok clean);
      quiet = quiet_then l.invariant.quiet quiet;
    }

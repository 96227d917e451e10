use Rattle.std.proofs.Common.{arith}
use Rattle.sqlite_trees.specs.View.{IsClean}
use Rattle.relay_store.specs.Texts.{lent}
use Rattle.relay_store_sqlite.proofs.Puts.{wrote_step}
use Rattle.relay_store_sqlite.proofs.Quiet.{quiet_then}
use Rattle.relay_store_sqlite.proofs.write.put_all.Goals as goal

pub loop-change-preserved : goal.loop-change-preserved
loop-change-preserved g c =
    let l = c.loop-change in
    let view = g.S.Store.view in
    let quiet = c.in_ok-put_one.ensures.quiet in
    let step = λ (clean : IsClean (view c.put_one.new.store)).
    let before : IsClean (view l.store) = omega (arith, quiet.clean) in
    wrote_step lent c.args.changes.now l.change-index _ (view c.args.store.now) (view l.store)
    (view c.put_one.new.store) c.args.next l.id c.loop-change-test.true l.invariant.id
    (l.invariant.wrote before) (c.in_ok-put_one.ensures.ok clean) in
    record {
      id = omega (arith, l.invariant.id);
      wrote = step;
      below = λ clean. (c.in_ok-put_one.ensures.ok clean).below;
      quiet = quiet_then l.invariant.quiet quiet;
    }

use Rattle.std.proofs.Common.{arith}
use Rattle.sqlite_trees.specs.View.{IsClean}
use Rattle.relay_store.specs.Texts.{lent}
use Rattle.relay_store_sqlite.proofs.Puts.{wrote_one}
use Rattle.relay_store_sqlite.proofs.write.put_one.Goals as goal

pub returns-clause-ok : goal.returns-clause-ok
returns-clause-ok g c clean =
    let old = g.S.Store.view c.args.store.now in
    let mid = g.S.Store.view c.remove_replaced.new.store in
    let then : IsClean mid = omega (arith, c.in_ok-put_change.ensures.quiet.clean) in
    let first : IsClean old = omega (arith, c.in_ok-remove_replaced.ensures.quiet.clean) in
    wrote_one old mid (g.S.Store.view c.put_change.new.store) c.args.id (lent c.args.change)
    (c.requires.below first) (c.in_ok-remove_replaced.ensures.ok then)
    (c.in_ok-put_change.ensures.ok clean)

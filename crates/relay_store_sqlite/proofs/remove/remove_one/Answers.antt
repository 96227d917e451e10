use Rattle.std.proofs.Common.{arith}
use Rattle.sqlite_trees.specs.View.{IsClean}
use Rattle.relay_store.specs.Texts.{lent}
use Rattle.relay_store_sqlite.proofs.Removes.{spares_row}
use Rattle.relay_store_sqlite.proofs.remove.remove_one.Goals as goal

pub returns-in-Ok-delete-clause-ok : goal.returns-in-Ok-delete-clause-ok
returns-in-Ok-delete-clause-ok g c clean =
    let view = g.S.Store.view in
    let deleted = c.in-Ok-delete.ensures in
    let then : IsClean (view c.may_go.new.store) = omega (arith, deleted.quiet.clean) in
    let may = c.in_ok-may_go.ensures in
    spares_row (view c.args.store.now) (view c.may_go.new.store) (view c.delete.new.self) _
    (lent c.args.change) (may.same then)
    (may.ok then (search c.if-not-branch.false)) (deleted.ok clean)

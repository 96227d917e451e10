use Rattle.std.proofs.Common.{◌∙◌, arith, ap, map, subst, sym}
use Rattle.sqlite_trees.specs.Tree.{order_of, sought}
use Rattle.sqlite_trees.specs.View.{Advances, IsClean}
use Rattle.sqlite_trees.specs.declared.store.Direction.TheVariants.{Forward}
use Rattle.relay_store.specs.Texts.{owned}
use Rattle.relay_store_sqlite.specs.Table.{IsReading}
use Rattle.relay_store_sqlite.specs.declared.read.TheConstants.{CURSOR}
use Rattle.relay_store_sqlite.specs.declared.write.TheConstants.{CHANGE_TREE}
use Rattle.relay_store_sqlite.proofs.Cursors.{from_nothing, read_start, read_step}
use Rattle.relay_store_sqlite.proofs.Quiet.{quiet_then}
use Rattle.relay_store_sqlite.proofs.read.read_all.Goals as goal

pub loop-init : goal.loop-init
loop-init g c =
    let old = g.S.Store.view c.args.store.now in
    let new = g.S.Store.view c.seek.new.self in
    let order = order_of (old.shape CHANGE_TREE) in
    record {
      live = c.in_default.ensures.live;
      reads = λ clean. subst (λ items. IsReading old new (map owned items) 1)
          (sym c.new-all.ensures.items) (read_start old new _ (c.in_default.ensures.ok clean)
          (ap (λ key. sought order Forward key (old.trees CHANGE_TREE)) c.clear.ensures
          ∙ from_nothing order (old.trees CHANGE_TREE)));
      quiet = c.seek.ensures.quiet;
    }

pub loop-preserved : goal.loop-preserved
loop-preserved g c =
    let view = g.S.Store.view in
    let l = c.loop in
    let quiet = c.next.ensures.quiet in
    let added = c.in_ok-next-in-Ok-true.ensures in
    record {
      live = c.in-Ok-true.ensures.stay _ l.invariant.live;
      reads = λ clean.
          let before : IsClean (view l.store) = omega (arith, quiet.clean) in
          read_step (view c.args.store.now) (view l.store) (view c.next.new.self)
          (map owned l.all.items) (map owned c.add_row.new.all.items) l.next
          c.in_ok-next-in-Ok-true.next c.next.new.row (l.invariant.reads before)
          (subst (Advances (view l.store) (view c.next.new.self) CURSOR c.next.new.row)
          c.in-Ok-true.field-0-test (c.in-Ok-true.ensures.ok clean)) added.change added.id;
      quiet = quiet_then l.invariant.quiet quiet;
    }

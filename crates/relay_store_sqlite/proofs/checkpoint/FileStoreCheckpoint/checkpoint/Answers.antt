-- A rollback goes first, so that no frame of it is in the log.
use Rattle.std.proofs.Common.{IsTrue, arith, subst, sym}
use Rattle.sqlite_store.specs.FileStore.{view}
use Rattle.sqlite_trees.specs.View.{View, IsClean}
use Rattle.relay_store_sqlite.specs.Checkpoint.{Settles}
use Rattle.relay_store_sqlite.proofs.Checkpoints.{settled_by}
use Rattle.relay_store_sqlite.proofs.Quiet.{cause_then, quiet_then}
use Rattle.relay_store_sqlite.proofs.checkpoint.FileStoreCheckpoint.checkpoint.Goals as goal

pub returns-in-Ok-clause-ok : goal.returns-in-Ok-clause-ok
returns-in-Ok-clause-ok g c clean =
    let old = view c.args.self.now in
    let mid = view c.rollback.new.self in
    let moved = c.in-Ok.ensures in
    let on = moved.open clean in
    let same = c.checkpoint.ensures.same on in
    subst (Settles old) (sym same)
    (settled_by old mid c.rollback.ensures.undone (subst IsClean same clean)
    (subst (λ (v : View). IsTrue v.is_open) same on))

pub returns-in-Ok-clause-moved : goal.returns-in-Ok-clause-moved
returns-in-Ok-clause-moved g c clean =
    let moved = c.in-Ok.ensures in
    let on = moved.open clean in
    let same = c.checkpoint.ensures.same on in
    let kept = c.rollback.ensures.undone.kept (subst IsClean same clean) in
    let was_on = kept.was_open (subst (λ (v : View). IsTrue v.is_open) same on) in
    moved.moved (c.rollback.ensures.logged was_on)

pub returns-in-Ok-clause-quiet : goal.returns-in-Ok-clause-quiet
returns-in-Ok-clause-quiet g c = quiet_then c.rollback.ensures.quiet c.checkpoint.ensures.quiet

pub returns-in-Err-clause-quiet : goal.returns-in-Err-clause-quiet
returns-in-Err-clause-quiet g c = quiet_then c.rollback.ensures.quiet c.checkpoint.ensures.quiet

pub returns-in-Ok-clause-cause : goal.returns-in-Ok-clause-cause
returns-in-Ok-clause-cause g c clean = record {
  counts = omega (arith, c.rollback.ensures.quiet.counts, c.checkpoint.ensures.quiet.counts);
  failed = λ is. cc;
  full = λ is. cc;
}

pub returns-in-Err-clause-cause : goal.returns-in-Err-clause-cause
returns-in-Err-clause-cause g c clean =
    rw c.fault_of.ensures (cause_then (view c.rollback.new.self) _ _ _ c.in-Err.error
    c.rollback.ensures.quiet.counts c.checkpoint.ensures.quiet.counts
    (c.in-Err.ensures.cause clean))

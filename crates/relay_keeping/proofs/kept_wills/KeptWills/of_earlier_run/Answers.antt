use Rattle.std.proofs.Common.{sym}
use Rattle.relay_keeping.proofs.LeftWills.{noted_more}
use Rattle.relay_keeping.proofs.kept_wills.KeptWills.of_earlier_run.Goals as goal

pub loop-index-preserved : goal.loop-index-preserved
loop-index-preserved c =
    noted_more c.args.left.now.wills.entries c.loop-index.index
    (c.in-Some.session.now, c.in-Some.field-0-1.now) _ _ (sym c.in-Some.ensures.entry)
    c.loop-index.invariant (c.in_ok-insert.ensures.updates).0

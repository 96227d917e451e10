use Rattle.std.proofs.Common.{sym}
use Rattle.relay_keeping.proofs.LastWills.{done_more}
use Rattle.relay_keeping.proofs.last_wills.do_wills.Goals as goal

pub loop-index-preserved : goal.loop-index-preserved
loop-index-preserved c =
    done_more c.args.left.now.wills.entries c.loop-index.index
    (c.in-Some.field-0-0.now, c.in-Some.will.now) c.args.hub.now c.loop-index.hub c.do_left.new.hub
    (sym c.in-Some.ensures.entry) c.loop-index.invariant
    (c.in_ok-do_left.ensures c.in-Some.field-0-0.now)

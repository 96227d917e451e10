use Rattle.relay_apply.proofs.Undone.{one_back}
use Rattle.relay_apply.proofs.undo.take_back.Goals as goal

pub loop-last-preserved : goal.loop-last-preserved
loop-last-preserved c =
    one_back c.loop-last.tree c.undo_one.new.tree _ c.loop-last.kept.items c.pop.new.self.items
    c.pop.result c.in-Some.last c.in-Some.is c.pop.ensures.items c.undo_one.ensures
    c.loop-last.invariant

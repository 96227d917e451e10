use Rattle.relay_apply.proofs.Undone.{puts_always}
use Rattle.relay_apply.proofs.undo.put_back.Goals as goal

pub returns : goal.returns
returns c =
    puts_always c.args.tree.now c.exchange.new.whole c.args.part c.args.path.now c.exchange.result
    c.exchange.ensures.old c.exchange.ensures.missing c.exchange.ensures.found

use Rattle.relay_patch.proofs.Carried.{inserts_so}
use Rattle.relay_apply.proofs.keeping.reserve_and_put.Goals as goal

pub returns-in-Ok-put-clause-made : goal.returns-in-Ok-put-clause-made
returns-in-Ok-put-clause-made c =
    inserts_so c.args.place.now c.args.value c.args.tree.now c.put.new.tree c.requires
    c.in-Ok-put.ensures.made

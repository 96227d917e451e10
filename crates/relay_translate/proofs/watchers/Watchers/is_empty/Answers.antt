use Rattle.relay_translate.proofs.EachWatched.{values_decide, sizes_decide}
use Rattle.relay_translate.proofs.watchers.Watchers.is_empty.Goals as goal

pub returns-then-is_empty : goal.returns-then-is_empty
returns-then-is_empty c =
    sizes_decide c.args.self.now c.is_empty-then-is_empty.result
    (c.is_empty.ensures.0 c.if-is_empty.true) c.is_empty-then-is_empty.ensures

pub returns-else-is_empty : goal.returns-else-is_empty
returns-else-is_empty c =
    values_decide c.args.self.now c.is_empty.result c.if-is_empty.false c.is_empty.ensures

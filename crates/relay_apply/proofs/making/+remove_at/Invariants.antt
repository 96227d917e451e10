use Rattle.std.proofs.Common.{length}
use Rattle.relay_apply.proofs.making.+remove_at.Given as goal

abbrev pub decreases-remove_at : goal.decreases-remove_at
decreases-remove_at l = length l.path.now

use Rattle.std.proofs.Common.{length}
use Rattle.relay_apply.proofs.making.+insert_at.Given as goal

abbrev pub decreases-insert_at : goal.decreases-insert_at
decreases-insert_at l = length l.path.now

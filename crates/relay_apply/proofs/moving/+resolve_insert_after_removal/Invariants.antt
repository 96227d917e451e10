use Rattle.std.proofs.Common.{length}
use Rattle.relay_apply.proofs.moving.+resolve_insert_after_removal.Given as goal

abbrev pub decreases-resolve_insert_after_removal : goal.decreases-resolve_insert_after_removal
decreases-resolve_insert_after_removal l = length l.path.now

use Rattle.std.proofs.Common.{length}
use Rattle.relay_pointer.proofs.pointer.+is_proper_prefix.Given as goal

abbrev pub decreases-is_proper_prefix : goal.decreases-is_proper_prefix
decreases-is_proper_prefix l = length l.path.now

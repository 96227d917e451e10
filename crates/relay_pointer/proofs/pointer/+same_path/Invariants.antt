use Rattle.std.proofs.Common.{length}
use Rattle.relay_pointer.proofs.pointer.+same_path.Given as goal

abbrev pub decreases-same_path : goal.decreases-same_path
decreases-same_path l = length l.path.now

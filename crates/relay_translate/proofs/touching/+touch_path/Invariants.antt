use Rattle.std.proofs.Common.{length}
use Rattle.relay_translate.proofs.touching.+touch_path.Given as goal

abbrev pub decreases-touch_path : goal.decreases-touch_path
decreases-touch_path l = length l.path.now

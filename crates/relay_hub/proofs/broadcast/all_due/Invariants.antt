use Rattle.std.proofs.Common.{take}
use Rattle.relay_hub.specs.Telling.{AreDue}
use Rattle.relay_hub.proofs.broadcast.all_due.Given as goal

abbrev pub invariant-loop-number : goal.invariant-loop-number
invariant-loop-number l = AreDue (take l.number-index l.numbers) l.sessions

use Rattle.std.proofs.Common.{◌≤◌, take, option_copied}
use Rattle.relay_hub.specs.Telling.{GivenTo}
use Rattle.relay_hub.proofs.broadcast.give.Given as goal

abbrev pub invariant-loop-number : goal.invariant-loop-number
invariant-loop-number l = record {
  given : GivenTo (option_copied l.fn.update) (take l.number-index l.numbers) l.fn.sessions
      l.sessions l.short;
  count : l.short ≤ l.number-index;
}

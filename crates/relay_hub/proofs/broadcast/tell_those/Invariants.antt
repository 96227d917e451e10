use Rattle.std.proofs.Common.{take}
use Rattle.relay_hub.specs.Telling.{named, views_of}
use Rattle.relay_hub.proofs.NextAudience.{SoFar}
use Rattle.relay_hub.proofs.broadcast.tell_those.Given as goal

abbrev pub invariant-loop-number : goal.invariant-loop-number
invariant-loop-number l =
    SoFar l.room l.audiences l.fn.telling l.telling
    (views_of (named l.audiences (take l.number-index l.numbers))) l.fn.sessions l.sessions l.short

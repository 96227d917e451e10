use Rattle.std.proofs.Common.{take}
use Rattle.relay_hub.specs.Telling.{views_of}
use Rattle.relay_hub.proofs.NextAudience.{SoFar}
use Rattle.relay_hub.proofs.broadcast.tell_all.Given as goal

abbrev pub invariant-loop-audience : goal.invariant-loop-audience
invariant-loop-audience l =
    SoFar l.room l.audiences l.fn.telling l.telling (views_of (take l.audience-index l.audiences))
    l.fn.sessions l.sessions l.short

use Rattle.std.proofs.Common.{◌≡◌}
use Rattle.relay_hub.specs.Representation.{rooms_of}
use Rattle.relay_hub.proofs.kept_texts.drop_others.Given as goal

abbrev pub invariant-loop-other : goal.invariant-loop-other
invariant-loop-other l = rooms_of l.rooms.entries ≡ rooms_of l.initial.rooms.entries

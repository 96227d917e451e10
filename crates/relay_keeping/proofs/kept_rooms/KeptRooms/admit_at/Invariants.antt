use Rattle.std.proofs.Common.{◌≤◌, ◌+◌, ◌-◌, length}
use Rattle.relay_keeping.specs.Noted.{IsSame}
use Rattle.relay_keeping.proofs.kept_rooms.KeptRooms.admit_at.Given as goal

abbrev pub invariant-loop-self : goal.invariant-loop-self
invariant-loop-self l = record {
  same : IsSame l.initial.self l.self;
  longer : length l.initial.self.rooms.items ≤ length l.self.rooms.items;
}

abbrev pub decreases-loop-self : goal.decreases-loop-self
decreases-loop-self l = l.index + 1 - length l.self.rooms.items

use Rattle.std.proofs.Common.{◌≡◌, ◌≤◌, length, vec_capacity}
use Rattle.relay_hub.specs.Call.{Runs}
use Rattle.relay_hub.proofs.hub.Hub.run.Given as goal

abbrev pub invariant-loop-event : goal.invariant-loop-event
invariant-loop-event l = record {
  runs : Runs l.fn.self l.events l.answers.items l.self;
  count : length l.answers.items ≡ l.event-index;
  room : length l.events ≤ vec_capacity l.answers;
}

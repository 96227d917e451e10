-- Each pass so far drew one text.
use Rattle.std.proofs.Common.{◌≡◌, ◌+◌, length, vec_capacity, Some, []}
use Rattle.relay_link.specs.Adds.{Adds, draws}
use Rattle.relay_link.specs.Follows.{at}
use Rattle.relay_link.specs.Hears.{Passes}
use Rattle.relay_link.specs.Tells.{Drew}
use Rattle.relay_link.proofs.visit.draw_texts.Given as goal

abbrev pub invariant-loop : goal.invariant-loop
invariant-loop l = record {
  drew : Drew l.texts.items (at l.initial.hub (Some l.session) l.initial.events)
      (at l.hub (Some l.session) l.events);
  passes : Passes l.initial.events l.events [];
  adds : Adds l.counter 0 l.counter l.initial.events l.events;
  each : draws l.events ≡ draws l.initial.events + l.counter;
  count : length l.texts.items ≡ l.counter;
  room : vec_capacity l.texts ≡ vec_capacity l.initial.texts;
}

-- Each pass so far added one event, a draw, and framed what it drew.
use Rattle.std.proofs.Common.{◌≡◌, ◌+◌, Some, []}
use Rattle.relay_link.specs.Adds.{Adds, draws}
use Rattle.relay_link.specs.Follows.{Follows, no_opening, at}
use Rattle.relay_link.specs.Hears.{Passes}
use Rattle.relay_link.specs.Tells.{Tells}
use Rattle.relay_link.proofs.opened.draw_messages.Given as goal

abbrev pub invariant-loop : goal.invariant-loop
invariant-loop g l = record {
  follows : Follows no_opening (at l.initial.hub (Some l.session) l.initial.events)
      (at l.hub (Some l.session) l.events);
  tells : Tells g.S.Write.contents (at l.initial.hub (Some l.session) l.initial.events)
      (at l.hub (Some l.session) l.events) l.initial.socket l.socket;
  passes : Passes l.initial.events l.events [];
  adds : Adds l.counter 0 l.counter l.initial.events l.events;
  each : draws l.events ≡ draws l.initial.events + l.counter;
}

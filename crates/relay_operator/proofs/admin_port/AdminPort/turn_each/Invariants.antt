-- The connections that had no turn yet are as they were, the others had theirs, and who asked to
-- stop or to open is among those.
use Rattle.std.proofs.Common.{◌≡◌, ◌≤◌, IsTrue, drop, take}
use Rattle.relay_admin.specs.declared.request.AdminRequest.TheVariants.{Open, Stop}
use Rattle.relay_operator.specs.Port.{SomeAsks}
use Rattle.relay_operator.specs.Turning.{ServesAll}
use Rattle.relay_operator.proofs.admin_port.AdminPort.turn_each.Given as goal

abbrev pub invariant-loop-turn : goal.invariant-loop-turn
invariant-loop-turn g l = record {
  index : l.index ≤ l._turn;
  untouched : drop l.index l.self.connections.items
      ≡ drop l._turn l.initial.self.connections.items;
  serves : ServesAll g.L.Stream.Read.remaining g.L.Stream.Write.contents l.view
      l.initial.self.counters l.turn (take l._turn l.initial.self.connections.items)
      (take l.index l.self.connections.items);
  stopping : IsTrue l.turn.is_stopping
      → SomeAsks g.L.Stream.Read.remaining Stop l.initial.self.connections.items;
  opening : IsTrue l.turn.is_opening
      → SomeAsks g.L.Stream.Read.remaining Open l.initial.self.connections.items;
  counters : l.self.counters ≡ l.initial.self.counters;
}

use Rattle.std.proofs.Common.{◌≡◌, ◌≤◌, [], length, take}
use Rattle.relay_keeping.specs.Begun.{AreBegun}
use Rattle.relay_keeping.specs.Stood.{Called}
use Rattle.relay_keeping.proofs.recovery.begin_rooms.Given as goal

-- the rooms of the clients so far have begun
abbrev pub invariant-loop-index : goal.invariant-loop-index
invariant-loop-index l = record {
  called : Called l.initial.hub l.hub;
  begun : AreBegun [] l.initial.hub
      → length l.clients.rooms.entries ≤ l.initial.hub.config.rooms
      → (l.hub.config ≡ l.initial.hub.config)
      × AreBegun (take l.index l.clients.rooms.entries) l.hub;
}

-- The rooms so far are those of the first lines.
use Rattle.std.proofs.Common.{◌≡◌, ◌++◌, ℕ, List, map}
use Rattle.std.specs.Str.Iter.{lines_rest}
use Rattle.relay_store.specs.Texts.{owned}
use Rattle.relay_store.specs.declared.change.Change.{Change}
use Rattle.relay_server.specs.Exports.{AreRoomsOf}
use Rattle.relay_server.proofs.export.Export.add_rooms.Given as goal

abbrev pub invariant-loop-line : goal.invariant-loop-line
invariant-loop-line l = (l.self.epoch ≡ l.initial.self.epoch) × (rooms : List (Change (List ℕ)))
    × (map owned l.self.changes.items ≡ map owned l.initial.self.changes.items ++ rooms)
    × ((others : List (Change (List ℕ))) → AreRoomsOf (lines_rest l.line-iterator) others
    → AreRoomsOf (lines_rest l.initial.line-iterator) (rooms ++ others))

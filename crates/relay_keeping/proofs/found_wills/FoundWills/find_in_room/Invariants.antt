-- The wills of the first sessions are found.
use Rattle.std.proofs.Common.{take}
use Rattle.std.specs.List.{flat_map}
use Rattle.relay_keeping.specs.Wills.{Finds, open_will, sessions_at}
use Rattle.relay_keeping.proofs.found_wills.FoundWills.find_in_room.Given as goal

abbrev pub invariant-loop-place : goal.invariant-loop-place
invariant-loop-place l =
    let sessions = sessions_at l.hub l.fn.index in
    Finds l.noted.entries (flat_map (open_will l.room) (take l.place sessions))
    l.initial.self l.self

use Rattle.std.proofs.Common.{sym}
use Rattle.relay_hub.proofs.Representation.{room_at}
use Rattle.relay_hub.proofs.hub.Hub.update_since.Goals as goal

pub returns-in-Some : goal.returns-in-Some
returns-in-Some c =
    rw (← c.self.view_is, room_at _ _ _ _ (sym c.in-Some.ensures.entry), ← c.room.ensures)
    c.update_since.ensures

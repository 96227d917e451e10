use Rattle.relay_hub.proofs.Shedding.{shed_agrees}
use Rattle.relay_hub.proofs.room_sessions.RoomSessions.shed.Goals as goal

pub invariant_of-self : goal.invariant_of-self
invariant_of-self c = (
  rw c.shed_sessions.ensures
      (shed_agrees c.self.inside.audiences c.self.inside.sessions.items c.self.invariant.0),
  rw c.none.ensures tt,
)

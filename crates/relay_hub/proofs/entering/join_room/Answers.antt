use Rattle.std.proofs.Common.{subst, ◌≡◌, Some}
use Rattle.relay_room.specs.Room.{revision}
use Rattle.relay_hub.specs.Session.{Session, newcomer}
use Rattle.relay_hub.specs.State.{RoomSessions}
use Rattle.relay_hub.specs.Step.{ChangesOnly}
use Rattle.relay_hub.proofs.entering.join_room.Goals as goal

pub returns-clause-ok : goal.returns-clause-ok
returns-clause-ok c =
    let new_session = c.args.new_session in
    let g : RoomSessions = c.args.room_sessions.now in
    let is : c.in_ok-session.session
    ≡ newcomer new_session.config new_session.access (revision g.room) new_session.number =
    rw (c.revision.ensures.revision, c.room.ensures) at c.in_ok-session.ensures in
    subst (λ (x : Session).
    ChangesOnly x.number (Some x) g c.join.new.self) is c.in_ok-join.ensures.ok

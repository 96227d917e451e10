use Rattle.std.proofs.Common.{sym}
use Rattle.relay_hub.proofs.Representation.{same_rooms}
use Rattle.relay_hub.proofs.kept_texts.drop_at.Goals as goal

pub returns-in-Some : goal.returns-in-Some
returns-in-Some c =
    same_rooms c.args.rooms.now.entries c.args.index c.in-Some.room_sessions.now
    c.drop_snapshot.new.self (sym c.in-Some.ensures.value) c.drop_snapshot.ensures

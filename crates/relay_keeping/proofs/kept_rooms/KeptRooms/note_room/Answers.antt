use Rattle.std.proofs.Common.{◌∙◌, ◌==◌, ap, if◌then◌else◌}
use Rattle.relay_keeping.specs.Noted.{noted_at, noted_in}
use Rattle.relay_keeping.proofs.Noting.{noted_written}
use Rattle.relay_keeping.proofs.kept_rooms.KeptRooms.note_room.Goals as goal

pub returns-in-Some-clause-room : goal.returns-in-Some-clause-room
returns-in-Some-clause-room c = λ within index.
    noted_written c.args.self.now.rooms.items c.args.new.index index c.note_in.new.kept within
    ∙ ap (λ room. if c.args.new.index == index then room
    else noted_at (noted_in c.args.self.now) index) c.note_in.ensures

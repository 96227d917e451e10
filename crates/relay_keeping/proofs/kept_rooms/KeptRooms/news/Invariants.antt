use Rattle.std.proofs.Common.{take}
use Rattle.relay_keeping.specs.News.{AreNews}
use Rattle.relay_keeping.specs.Noted.{noted_in}
use Rattle.relay_keeping.proofs.kept_rooms.KeptRooms.news.Given as goal

-- the news of the rooms so far
abbrev pub invariant-loop-index : goal.invariant-loop-index
invariant-loop-index l = AreNews (noted_in l.self) 0 (take l.index l.hub.rooms) l.all.items

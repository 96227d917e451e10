use Rattle.std.proofs.Common.{take}
use Rattle.relay_keeping.specs.News.{HavePlaces}
use Rattle.relay_keeping.specs.Noted.{IsSame}
use Rattle.relay_keeping.proofs.kept_rooms.KeptRooms.admit.Given as goal

abbrev pub invariant-loop-new : goal.invariant-loop-new
invariant-loop-new l = record {
  same : IsSame l.initial.self l.self;
  places : HavePlaces l.self (take l.new-index l.news);
}

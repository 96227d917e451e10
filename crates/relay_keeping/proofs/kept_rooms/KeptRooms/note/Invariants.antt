use Rattle.std.proofs.Common.{◌≡◌, ℕ, length}
use Rattle.relay_keeping.specs.News.{HavePlaces, noted_by}
use Rattle.relay_keeping.specs.Noted.{noted_at, noted_in}
use Rattle.relay_keeping.proofs.kept_rooms.KeptRooms.note.Given as goal

-- what is noted, and is to be noted, is what is noted in the end
abbrev pub invariant-loop-new : goal.invariant-loop-new
invariant-loop-new l = record {
  rooms : HavePlaces l.fn.self l.fn.news.items → HavePlaces l.self l.news.items
      × ((index : ℕ) → noted_by index l.news.items (noted_at (noted_in l.self) index)
      ≡ noted_by index l.fn.news.items (noted_at (noted_in l.fn.self) index));
  floor : l.self.floor ≡ l.fn.self.floor;
}

abbrev pub decreases-loop-new : goal.decreases-loop-new
decreases-loop-new l = length l.news.items

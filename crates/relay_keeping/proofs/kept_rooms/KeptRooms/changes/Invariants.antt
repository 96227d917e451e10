use Rattle.std.proofs.Common.{◌≡◌, ◌++◌, map, take}
use Rattle.std.specs.List.{flat_map}
use Rattle.std.specs.Option.{option_to_list}
use Rattle.relay_store.specs.Texts.{lent}
use Rattle.relay_keeping.specs.News.{change_of, ended_by}
use Rattle.relay_keeping.specs.Noted.{noted_in}
use Rattle.relay_keeping.proofs.kept_rooms.KeptRooms.changes.Given as goal

-- the ends so far
abbrev pub invariant-loop-new : goal.invariant-loop-new
invariant-loop-new l = map lent l.changes.items
    ≡ flat_map (λ new. option_to_list (ended_by (noted_in l.self) new)) (take l.new-index l.news)

-- all ends, and the changes of the news so far
abbrev pub invariant-loop-new-2 : goal.invariant-loop-new-2
invariant-loop-new-2 l = map lent l.changes.items
    ≡ flat_map (λ new. option_to_list (ended_by (noted_in l.self) new)) l.news
    ++ map change_of (take l.new-index l.news)

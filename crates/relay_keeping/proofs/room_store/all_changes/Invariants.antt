-- The changes of the rooms, and of the first wills.
use Rattle.std.proofs.Common.{◌≡◌, ◌++◌, map, take}
use Rattle.relay_store.specs.Texts.{lent, owned}
use Rattle.relay_keeping.specs.News.{changes_of}
use Rattle.relay_keeping.specs.Noted.{noted_in}
use Rattle.relay_keeping.proofs.room_store.all_changes.Given as goal

abbrev pub invariant-loop-change : goal.invariant-loop-change
invariant-loop-change l = map lent l.changes.items
    ≡ changes_of (noted_in l.fn.kept) l.fn.news l.fn.floor
    ++ map owned (take l.change-index l.wills)

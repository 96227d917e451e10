-- The changes for the wills that were noted first.
use Rattle.std.proofs.Common.{◌≡◌, List as list_of, map, take}
use Rattle.std.specs.List.{flat_map}
use Rattle.relay_hub.specs.Log.{Bequest}
use Rattle.relay_store.specs.Texts.{owned}
use Rattle.relay_keeping.specs.Wills.{NotesWills, drop_change}
use Rattle.relay_keeping.proofs.kept_wills.KeptWills.drops.Given as goal

abbrev pub invariant-loop-index : goal.invariant-loop-index
invariant-loop-index l = (wills : list_of Bequest) → NotesWills l.numbers.entries wills
    → map owned l.changes.items
    ≡ flat_map (drop_change wills) (take l.index l.self.noted.entries)

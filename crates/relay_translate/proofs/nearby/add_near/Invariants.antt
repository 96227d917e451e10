use Rattle.relay_pointer.specs.Path.{path_of}
use Rattle.relay_translate.specs.SlotIndex.{Gains, is_above}
use Rattle.relay_translate.proofs.nearby.add_near.Given as goal

abbrev pub invariant-loop-depth : goal.invariant-loop-depth
invariant-loop-depth l =
    Gains (is_above l.depth (path_of l.path)) l.change l.index l.fn.sessions.items l.sessions.items

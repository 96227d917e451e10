use Rattle.relay_pointer.specs.Path.{path_of}
use Rattle.relay_translate.proofs.Runs.{Walked}
use Rattle.relay_translate.proofs.nearby.add_run.Given as goal

abbrev pub invariant-loop-pointer : goal.invariant-loop-pointer
invariant-loop-pointer l =
    Walked l.change
    (path_of l.first.items) l.index l.pointer-iterator l.fn.sessions.items l.sessions.items

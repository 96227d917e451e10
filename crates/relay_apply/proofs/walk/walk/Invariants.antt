use Rattle.std.proofs.Common.{◌≡◌, drop}
use Rattle.relay_patch.specs.Walk.{walk}
use Rattle.relay_pointer.specs.Path.{path_of}
use Rattle.relay_apply.proofs.walk.walk.Given as goal

abbrev pub invariant-loop-token : goal.invariant-loop-token
invariant-loop-token l =
    walk l.fn.tree (path_of l.path) ≡ walk l.part (path_of (drop l.token-index l.path))

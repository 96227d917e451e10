use Rattle.std.proofs.Common.{◌≡◌, drop}
use Rattle.relay_pointer.specs.Path.{at, path_of}
use Rattle.relay_pointer.proofs.walk.resolve.Given as goal

abbrev pub invariant-loop-token : goal.invariant-loop-token
invariant-loop-token l =
    at l.fn.tree (path_of l.token-items) ≡ at l.part (path_of (drop l.token-index l.token-items))

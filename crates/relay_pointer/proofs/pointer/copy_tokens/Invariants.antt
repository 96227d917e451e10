use Rattle.std.proofs.Common.{◌≡◌, take}
use Rattle.relay_pointer.specs.Path.{path_of}
use Rattle.relay_pointer.proofs.pointer.copy_tokens.Given as goal

abbrev pub invariant-loop-token : goal.invariant-loop-token
invariant-loop-token l = path_of l.copies.items ≡ take l.token-index (path_of l.tokens)

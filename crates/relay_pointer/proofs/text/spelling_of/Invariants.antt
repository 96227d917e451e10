use Rattle.std.proofs.Common.{◌≡◌, take, string_bytes}
use Rattle.relay_pointer.specs.Path.{path_of}
use Rattle.relay_pointer.specs.Spelling.{spelling}
use Rattle.relay_pointer.proofs.text.spelling_of.Given as goal

abbrev pub invariant-loop-token : goal.invariant-loop-token
invariant-loop-token l = string_bytes l.text ≡ spelling (take l.token-index (path_of l.tokens))

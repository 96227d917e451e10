use Rattle.std.proofs.Common.{◌≡◌, ◌-◌, ◌^◌, min, take}
use Rattle.relay_pointer.specs.Index.{number_onto}
use Rattle.relay_pointer.proofs.index.number.Given as goal

abbrev pub invariant-loop-byte : goal.invariant-loop-byte
invariant-loop-byte l = l.number ≡ min (2 ^ 64 - 1) (number_onto 0 (take l.byte-index l.bytes))

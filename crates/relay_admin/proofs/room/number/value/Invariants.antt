-- The digits so far write the value, or more than it can be.
use Rattle.std.proofs.Common.{◌≡◌, ◌-◌, ◌^◌, min, take}
use Rattle.relay_admin.specs.Edits.{number_after}
use Rattle.relay_admin.proofs.room.number.value.Given as goal

abbrev pub invariant-loop-digit : goal.invariant-loop-digit
invariant-loop-digit l = l.value ≡ min (number_after 0 (take l.digit-index l.digits)) (2 ^ 64 - 1)

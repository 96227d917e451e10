-- The escapes that were passed are whole.
use Rattle.std.proofs.Common.{◌≡◌, length}
use Rattle.relay_admin.specs.Query.{has_whole_escapes}
use Rattle.relay_admin.proofs.room.query.has_whole_escapes.Given as goal

abbrev pub invariant-loop-rest : goal.invariant-loop-rest
invariant-loop-rest l = has_whole_escapes l.fn.text ≡ has_whole_escapes l.rest

abbrev pub decreases-loop-rest : goal.decreases-loop-rest
decreases-loop-rest l = length l.rest

-- The skipped bytes are spaces and tabs.
use Rattle.std.proofs.Common.{◌≡◌, length}
use Rattle.relay_admin.specs.Edits.{is_parameters}
use Rattle.relay_admin.proofs.room.media_type.is_parameters.Given as goal

abbrev pub invariant-loop-rest : goal.invariant-loop-rest
invariant-loop-rest l = is_parameters l.fn.bytes ≡ is_parameters l.rest

abbrev pub decreases-loop-rest : goal.decreases-loop-rest
decreases-loop-rest l = length l.rest

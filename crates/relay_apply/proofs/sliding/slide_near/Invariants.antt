-- The element is at the index that the loop has reached. The second loop counts down, and does not
-- run if the first one did.
use Rattle.std.proofs.Common.{◌≡◌, ◌≤◌, max}
use Rattle.std.specs.Prelude.{vec_len}
use Rattle.relay_apply.proofs.Slides.{moved}
use Rattle.relay_apply.proofs.sliding.slide_near.Given as goal

abbrev pub invariant-loop-index : goal.invariant-loop-index
invariant-loop-index l =
    (l.items.items ≡ moved l.fn.items.items l.from l.index)
    × (vec_len l.items ≡ vec_len l.fn.items) × (l.index ≤ max l.from l.to)

abbrev pub invariant-loop-index-2 : goal.invariant-loop-index-2
invariant-loop-index-2 l =
    (l.items.items ≡ moved l.fn.items.items l.from (max l.index l.to))
    × (vec_len l.items ≡ vec_len l.fn.items)

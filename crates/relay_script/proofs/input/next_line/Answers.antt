-- The line ends at the input's end, at a line feed, or is too long.
use Rattle.std.proofs.Common.{rules}
use Rattle.std.proofs.lemmas.Result.{err_from_is_err_and}
use Rattle.std.proofs.KnownBytes.{Consumes-kept, Keeps-refl, prepend_known-end}
use Rattle.relay_script.specs.declared.input.TheConstants.{MAX_LINE}
use Rattle.relay_script.proofs.LineLemmas.{TakesLine-end, TakesLine-part, BeginsTooLong-part}
use Rattle.relay_script.proofs.input.next_line.Goals as goal

pub returns-then-not-branch-clause-line : goal.returns-then-not-branch-clause-line
returns-then-not-branch-clause-line g c =
    let (none, end) = c.in_ok-has_more.ensures.end c.if-not-branch.true in
    let front = Consumes-kept _ _ _ _ c.parts.invariant.front c.in_ok-has_more.ensures.same in
    rw c.is_empty.ensures
    (TakesLine-end _ _ _ _ (search rules) c.parts.invariant.within_line front
    (prepend_known-end _ _ _ (Keeps-refl _) none end))

pub returns-in_err-take_part-clause-too_long : goal.returns-in_err-take_part-clause-too_long
returns-in_err-take_part-clause-too_long g c =
    let p =
    err_from_is_err_and c.from_residual-in_err-take_part.result
    c.from_residual-in_err-take_part.ensures.1 in
    rw (p.1, p.2) (λ too_long.
    let (part, rest, clean, split, long) = c.in_err-take_part.ensures.too_long too_long in
    let front = Consumes-kept _ _ _ _ c.parts.invariant.front c.in_ok-has_more.ensures.same in
    BeginsTooLong-part MAX_LINE _ _ _ rest _ part c.parts.invariant.within_line clean front split
    (search rules))

pub returns-then-branch-clause-line : goal.returns-then-branch-clause-line
returns-then-branch-clause-line g c =
    let (part, taken, grown) = c.in_ok-take_part.ensures.ok in
    let front = Consumes-kept _ _ _ _ c.parts.invariant.front c.in_ok-has_more.ensures.same in
    let split = rw c.if-branch.true at taken.front in
    rw grown (TakesLine-part _ _ _ _ _ part c.parts.invariant.within_line taken.within_line front
    split)

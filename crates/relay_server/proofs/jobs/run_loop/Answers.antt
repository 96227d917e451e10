-- The loop ends as its lines do, or without sockets; `BadLimit` comes only if a limit is out of
-- range.
use Rattle.std.proofs.lemmas.Result.{err_from_is_err_and}
use Rattle.relay_server.proofs.JobLemmas.{LoopEnds-none, limits_kept, never_ends}
use Rattle.relay_server.proofs.jobs.run_loop.Goals as goal

pub returns-in_err-loopback-clause-ends : goal.returns-in_err-loopback-clause-ends
returns-in_err-loopback-clause-ends g c =
    let p = err_from_is_err_and c.from_residual.result c.from_residual.ensures.1 in
    rw (p.1, p.2) (LoopEnds-none _ _ _ c.in_err-loopback.ensures.fault)

pub returns-clause-bad_limit : goal.returns-clause-bad_limit
returns-clause-bad_limit g c =
    limits_kept _ _ _ _ _ (rw c.config_of.ensures at c.in_ok-loopback.ensures.bad_limit)
    (never_ends c.answer_lines.result _ c.answer_lines.ensures.limits)

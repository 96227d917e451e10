-- `BadLimit` comes only if a limit is out of range.
use Rattle.relay_script.proofs.Limits.{limits_kept}
use Rattle.relay_loopback.proofs.loopback.Loopback.new.Goals as goal

pub returns-clause-bad_limit : goal.returns-clause-bad_limit
returns-clause-bad_limit g c = limits_kept _ _ _ _ _ c.in_ok-hub.ensures.bad_limit (λ e. cc)

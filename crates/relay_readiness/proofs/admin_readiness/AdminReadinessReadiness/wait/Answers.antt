-- No event of the port is left.
use Rattle.relay_readiness.proofs.Events.{none_after}
use Rattle.relay_readiness.proofs.admin_readiness.AdminReadinessReadiness.wait.Goals as goal

pub returns-clause-none : goal.returns-clause-none
returns-clause-none g c =
    none_after c.wait-told.new.events.items _ _ c.drop_admin.ensures c.tell_second.ensures.events

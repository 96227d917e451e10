use Rattle.relay_keeping.proofs.Calls.{by_event}
use Rattle.relay_keeping.proofs.recovery.raise_floor.Goals as goal

pub returns-clause-called : goal.returns-clause-called
returns-clause-called c = by_event _ _ c.raise_floor.ensures.stands

-- An invariant of the fields holds of the hub.
use Rattle.std.proofs.Common.{subst}
use Rattle.relay_hub.specs.State.{IsHub}
use Rattle.relay_hub.proofs.hub.Hub.config.Goals as goal

pub returns-clause-is : goal.returns-clause-is
returns-clause-is c = subst IsHub c.self.view_is c.self.invariant.0

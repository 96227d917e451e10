-- The connection that is held is new.
use Rattle.relay_operator.proofs.Holding.{admits_one}
use Rattle.relay_operator.proofs.admin_port.AdminPort.admit.Goals as goal

pub returns-then-is_ok-2 : goal.returns-then-is_ok-2
returns-then-is_ok-2 g c =
    admits_one _ _ c.args.stream c.new.result c.new.ensures c.hold.ensures

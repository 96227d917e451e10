-- The closure keeps the events that are not the port's.
use Rattle.std.proofs.Common.{rules, not}
use Rattle.std.proofs.lemmas.Fn.{filter_same}
use Rattle.relay_readiness.specs.Readiness.{is_admin}
use Rattle.relay_readiness.proofs.admin_readiness.drop_admin.Goals as goal

pub returns : goal.returns
returns c =
    filter_same _ (λ event. not (is_admin event)) _ (λ event b f t. search rules) _ _
    c.retain.ensures.filtered

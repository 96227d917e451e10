use Rattle.std.proofs.Common.{subst}
use Rattle.relay_audience.specs.Audiences.{IsAudiences}
use Rattle.relay_audience.proofs.Laws.{complete, exact}
use Rattle.relay_audience.proofs.Partings.{apart}
use Rattle.relay_audience.proofs.audiences.Audiences.all.Goals as goal

pub returns-clause-apart : goal.returns-clause-apart
returns-clause-apart c =
    let is = c.self.invariant in
    subst IsAudiences c.self.view_is
    (apart c.self.inside.table.list.items is.0.order is.0.once is.1 is.2)

pub returns-clause-exact : goal.returns-clause-exact
returns-clause-exact c = exact c.args.self.now (returns-clause-apart c)

pub returns-clause-complete : goal.returns-clause-complete
returns-clause-complete c = complete c.args.self.now

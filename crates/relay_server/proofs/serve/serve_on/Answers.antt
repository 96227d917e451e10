-- A server ends as it is hosted.
use Rattle.std.proofs.Common.{◌∙◌, ap, is_some, sym}
use Rattle.relay_server.proofs.ServeLemmas.{ends_all, ends_stopped, never_limited}
use Rattle.relay_server.proofs.serve.serve_on.Goals as goal

pub returns-in-None-clause-ends : goal.returns-in-None-clause-ends
returns-in-None-clause-ends g c =
    let host = c.host.ensures in
    ends_all c.args.options.admin c.args.options.rounds _ c.host.result _ _
    (sym c.requires.admin ∙ ap is_some c.in-None.is)
    host.done host.stopped host.uncut host.fault

pub returns-clause-ends : goal.returns-clause-ends
returns-clause-ends g c =
    let host = c.host_administered.ensures in
    ends_stopped c.args.options.admin c.args.options.rounds _
    c.host_administered.result _ _ _ (sym c.requires.admin ∙ ap is_some c.in-Some.is)
    host.done host.stopped host.uncut host.fault

pub returns-in-None-clause-limits : goal.returns-in-None-clause-limits
returns-in-None-clause-limits g c = never_limited c.host.result c.host.ensures.fault

pub returns-clause-limits : goal.returns-clause-limits
returns-clause-limits g c =
    never_limited c.host_administered.result c.host_administered.ensures.fault

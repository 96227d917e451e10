-- The keeper kept the hub as it was then.
use Rattle.relay_event_loop.proofs.server.Server.keep.Goals as goal

pub returns-in-Done-clause-kept : goal.returns-in-Done-clause-kept
returns-in-Done-clause-kept g c = λ tells done. c.keep-keeping.ensures.kept (cc)

pub returns-in-Unchanged-clause-kept : goal.returns-in-Unchanged-clause-kept
returns-in-Unchanged-clause-kept g c = λ tells done. c.keep-keeping.ensures.unchanged (cc)

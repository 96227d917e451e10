-- The hub was visited, or is as it was.
use Rattle.std.proofs.Common.{rules, refl}
use Rattle.relay_event_loop.proofs.Held.{visited}
use Rattle.relay_event_loop.proofs.server.Server.make_visit.Goals as goal

pub returns-clause-kept : goal.returns-clause-kept
returns-clause-kept g c =
    let made = visited _ _ _ _ _ _ c.make.result c.make.ensures.visits c.make.ensures.unchanged in
    ((refl, made), refl, search rules)

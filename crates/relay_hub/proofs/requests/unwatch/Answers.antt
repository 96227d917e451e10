use Rattle.std.proofs.Common.{◌∙◌, None, refl, sym}
use Rattle.relay_audience.specs.Audiences.{ChangesViewOf}
use Rattle.relay_hub.specs.Session.{unwatches}
use Rattle.relay_hub.proofs.Callers.{watched_by, written_agrees, written_by}
use Rattle.relay_hub.proofs.Watching.{unchanged_view}
use Rattle.relay_hub.proofs.requests.unwatch.Goals as goal
use Rattle.relay_hub.proofs.requests.unwatch.Goals.{in-Some, in_default}

pub returns-clause-unwatches : goal.returns-clause-unwatches
returns-clause-unwatches c =
    let x = c.session_mut.result.now in
    let there = c.session_mut.ensures.found in
    let now = unwatches c.args.id in
    rw c.unwatch-2.ensures (written_by c.args.sessions.now c.args.caller c.requires.caller x there
    (now x) refl now refl)

pub returns-clause-agree : goal.returns-clause-agree
returns-clause-agree c =
    let xs = c.args.sessions.now in
    let caller = c.args.caller in
    let old = c.args.audiences.now in
    let agree = c.requires.agree in
    let x = c.session_mut.result.now in
    let there = c.session_mut.ensures.found in
    let now = unwatches c.args.id in
    let was =
    watched_by xs caller c.requires.caller c.session_at.result.now c.session_at.ensures old agree in
    let changes : ChangesViewOf caller.number None old c.match-view.audiences =
    elim c.match-view.branch [
      | in-Some w ↦ rw w.audiences-is w.unwatch.ensures.only
      | in_default w ↦ rw w.audiences-is
          (unchanged_view old caller.number None (was ∙ sym w.in_default.ensures))
    ] in
    rw c.unwatch-2.ensures
    (written_agrees xs caller c.requires.caller x there (now x) refl old c.match-view.audiences
    agree changes)

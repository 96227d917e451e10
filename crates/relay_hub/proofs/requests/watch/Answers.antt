use Rattle.std.proofs.Common.{refl}
use Rattle.relay_hub.specs.Session.{watches}
use Rattle.relay_hub.proofs.Callers.{written_agrees, written_by}
use Rattle.relay_hub.proofs.requests.watch.Goals as goal

pub returns-clause-ok : goal.returns-clause-ok
returns-clause-ok c =
    let x = c.session_mut.result.now in
    let there = c.session_mut.ensures.found in
    let now = watches c.args.id c.args.view in
    rw (c.watch-2.ensures, c.in_ok-view.ensures.view)
    (written_by c.args.sessions.now c.args.caller c.requires.caller x there (now x) refl now refl)

pub returns-clause-agree : goal.returns-clause-agree
returns-clause-agree c =
    let x = c.session_mut.result.now in
    let there = c.session_mut.ensures.found in
    let now = watches c.args.id c.args.view in
    rw (c.watch-2.ensures, c.in_ok-view.ensures.view)
    (written_agrees c.args.sessions.now c.args.caller c.requires.caller x there (now x) refl
    c.args.audiences.now c.watch.new.self c.requires.agree c.in_ok-view.ensures.only)

use Rattle.std.proofs.Common.{refl}
use Rattle.relay_hub.specs.Session.{leaves_will}
use Rattle.relay_hub.proofs.Callers.{written_by, written_same}
use Rattle.relay_hub.proofs.requests.leave_will.Goals as goal

pub leave_will-requires : goal.leave_will-requires
leave_will-requires c = c.requires.space c.session_mut.result.now c.session_mut.ensures.found

pub returns-clause-leaves : goal.returns-clause-leaves
returns-clause-leaves c =
    let x = c.session_mut.result.now in
    let there = c.session_mut.ensures.found in
    let now = leaves_will c.args.id c.args.patch in
    rw c.leave_will.ensures
    (written_by c.args.sessions.now c.args.caller c.requires.caller x there (now x) refl now
    refl)

pub returns-clause-agree : goal.returns-clause-agree
returns-clause-agree c =
    let x = c.session_mut.result.now in
    let there = c.session_mut.ensures.found in
    let now = leaves_will c.args.id c.args.patch in
    rw c.leave_will.ensures
    (written_same c.args.sessions.now c.args.caller c.requires.caller x there (now x) refl
    c.args.audiences.now c.requires.agree refl)

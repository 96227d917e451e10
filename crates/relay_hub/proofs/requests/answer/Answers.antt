-- Of the requests but an edit, each changes the session of the caller alone, and so does a refusal.
use Rattle.std.proofs.Common.{refl}
use Rattle.relay_hub.specs.Session.{replied}
use Rattle.relay_hub.specs.State.{room_sessions}
use Rattle.relay_hub.proofs.Callers.{written_by, written_same, written_told}
use Rattle.relay_hub.proofs.Sessions.{session_there}
use Rattle.relay_hub.proofs.Untold.{changed_told, resumed_told}
use Rattle.relay_hub.proofs.requests.answer.Goals as goal

pub returns-in_ok-watch-in-Ok-Watch-clause-told : goal.returns-in_ok-watch-in-Ok-Watch-clause-told
returns-in_ok-watch-in-Ok-Watch-clause-told c =
    let xs = c.args.sessions.now in
    let s = c.args.asked.caller.number in
    let x = session_there xs s c.args.asked.caller.index c.requires.caller in
    changed_told s c.args.report.now.told _ xs c.watch.new.sessions x.0 x.1
    c.in_ok-watch-in-Ok-Watch.ensures.ok

pub returns-in-Ok-Will-clause-told : goal.returns-in-Ok-Will-clause-told
returns-in-Ok-Will-clause-told c =
    let xs = c.args.sessions.now in
    let s = c.args.asked.caller.number in
    let x = session_there xs s c.args.asked.caller.index c.requires.caller in
    changed_told s c.args.report.now.told _ xs c.leave_will.new.sessions x.0 x.1
    c.leave_will.ensures.leaves

pub returns-in-Ok-Unwatch-clause-told : goal.returns-in-Ok-Unwatch-clause-told
returns-in-Ok-Unwatch-clause-told c =
    let xs = c.args.sessions.now in
    let s = c.args.asked.caller.number in
    let x = session_there xs s c.args.asked.caller.index c.requires.caller in
    changed_told s c.args.report.now.told _ xs c.unwatch.new.sessions x.0 x.1
    c.unwatch.ensures.unwatches

pub
    returns-in_ok-resume-in-Ok-Resume-clause-told
    : goal.returns-in_ok-resume-in-Ok-Resume-clause-told
returns-in_ok-resume-in-Ok-Resume-clause-told c =
    let xs = c.args.sessions.now in
    let s = c.args.asked.caller.number in
    let x = session_there xs s c.args.asked.caller.index c.requires.caller in
    let room = c.args.room.now in
    resumed_told _ _ _ _ _ s x.0 (room_sessions room xs) (room_sessions room c.resume.new.sessions)
    c.args.report.now.told (c.in_ok-resume-in-Ok-Resume.ensures.ok x.0 x.1)

pub returns-in-Err-clause-ok : goal.returns-in-Err-clause-ok
returns-in-Err-clause-ok c = λ x e.
    let was = c.session_mut.result.now in
    let there = c.session_mut.ensures.found in
    let said = replied c.reply.result in
    let only =
    written_by c.args.sessions.now c.args.asked.caller c.requires.caller was there (said was) refl
    said refl x e in
    rw c.in-Err.is
    (refl, (refl, rw (c.reply-in-Err.ensures, c.reply.ensures) (rw c.reply.ensures at only)))

pub returns-in-Err-clause-told : goal.returns-in-Err-clause-told
returns-in-Err-clause-told c =
    let was = c.session_mut.result.now in
    let there = c.session_mut.ensures.found in
    let now = replied c.reply.result was in
    rw c.reply-in-Err.ensures
    (written_told c.args.sessions.now c.args.asked.caller c.requires.caller was there now refl
    c.args.report.now.told)

pub returns-in-Err-clause-agree : goal.returns-in-Err-clause-agree
returns-in-Err-clause-agree c =
    let was = c.session_mut.result.now in
    let there = c.session_mut.ensures.found in
    let now = replied c.reply.result was in
    rw c.reply-in-Err.ensures
    (written_same c.args.sessions.now c.args.asked.caller c.requires.caller was there now refl
    c.args.audiences.now c.requires.agree refl)

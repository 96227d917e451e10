use Rattle.std.proofs.Common.{◌≡◌, ◌==◌, true, false, nat_le, slice_set, Some, refl, sym, ap, ◌∙◌}
use Rattle.std.proofs.Common.{arith}
use Rattle.std.proofs.lemmas.Bool.Decides.{nat_tests}
use Rattle.relay_room.specs.Room.{revision}
use Rattle.relay_hub.specs.Update.{update_of}
use Rattle.relay_hub.specs.Session.{Session, replied, resumes}
use Rattle.relay_hub.proofs.Callers.{written_agrees, written_by, written_same}
use Rattle.relay_hub.proofs.Serving.{resume_served, resumes-view}
use Rattle.relay_hub.proofs.requests.resume.Goals as goal
use Rattle.relay_hub.proofs.requests.resume.Goals.{then-asked-epoch+in-Ok, else-asked-epoch}

pub returns-clause-ok : goal.returns-clause-ok
returns-clause-ok c =
    let room = c.args.room.now in
    let request = c.args.asked in
    let how = c.if-asked-epoch.how in
    let update : c.in_ok-update.update ≡ update_of (revision room) how =
    rw c.revision.ensures.revision at c.in_ok-update.ensures in
    let resumed =
    rw c.in_ok-view.ensures.view at (c.resume.ensures.resumed (revision room) how update) in
    let xs = c.args.sessions.now in
    let caller = c.args.asked.caller in
    let was = c.session_mut-2.result.now in
    let there = c.session_mut-2.ensures.found in
    let now = resumes (revision room) request.id request.view how in
    let changed =
    written_by xs caller c.requires.caller was there c.resume.new.self
    c.resume.ensures.number now resumed in
    λ x e. elim c.if-asked-epoch.branch [
      | then-asked-epoch+in-Ok w ↦
          let present : (request.epoch == c.args.epoch) ≡ true =
          grind (arith, nat_tests, w.if-asked-epoch.true) in
          let caught_up = w.in-Ok.ensures in
          let both : Some w.session_at.result.now ≡ Some x = sym w.session_at.ensures ∙ e in
          let one : w.session_at.result.now ≡ x = cc in
          let exact =
          rw (w.budget-budget.ensures
          ∙ ap (λ (y : Session). y.budget) one) at caught_up.exact in
          rw present (resume_served room caller.number request.id request.rev request.view
          w.in-Ok.how x xs (slice_set xs caller.index c.resume.new.self)
          (λ late. cc (caught_up.future.1 late)) exact caught_up.leads caught_up.sizes
          (rw w.how-is at (changed x e)))
      | else-asked-epoch w ↦
          let other : (request.epoch == c.args.epoch) ≡ false =
          grind (arith, nat_tests, w.if-asked-epoch.false) in
          rw other (refl, rw w.how-is at (changed x e))
    ]

pub returns-in-Err-Future-clause-ok : goal.returns-in-Err-Future-clause-ok
returns-in-Err-Future-clause-ok c = λ x e.
    let request = c.args.asked in
    let present : (request.epoch == c.args.epoch) ≡ true =
    grind (arith, nat_tests, c.if-asked-epoch.true) in
    let late = c.in-Err-Future.ensures.future.0 (rw c.in-Err-Future.field-0-is refl) in
    let past : nat_le request.rev (revision c.args.room.now) ≡ false =
    grind (arith, nat_tests, late) in
    let was = c.session_mut.result.now in
    let there = c.session_mut.ensures.found in
    let now = replied c.reply.result in
    let only =
    written_by c.args.sessions.now c.args.asked.caller c.requires.caller was there (now was) refl
    now refl x e in
    rw (present, past) (
      refl,
      rw (c.reply-in-Err-Future.ensures, c.reply.ensures) (rw c.reply.ensures at only),
    )

pub returns-in-Err-Future-clause-agree : goal.returns-in-Err-Future-clause-agree
returns-in-Err-Future-clause-agree c =
    let was = c.session_mut.result.now in
    let there = c.session_mut.ensures.found in
    let now = replied c.reply.result was in
    rw c.reply-in-Err-Future.ensures
    (written_same c.args.sessions.now c.args.asked.caller c.requires.caller was there now refl
    c.args.audiences.now c.requires.agree refl)

pub returns-clause-agree : goal.returns-clause-agree
returns-clause-agree c =
    let rev = c.revision.result in
    let id = c.args.asked.id in
    let view = c.args.asked.view in
    let how = c.if-asked-epoch.how in
    let resumed =
    rw c.in_ok-view.ensures.view at
    (c.resume.ensures.resumed rev how c.in_ok-update.ensures) in
    let was = c.session_mut-2.result.now in
    let there = c.session_mut-2.ensures.found in
    let watches = ap (λ (x : Session). x.view) resumed ∙ resumes-view rev id view how was in
    written_agrees c.args.sessions.now c.args.asked.caller c.requires.caller was there
    c.resume.new.self c.resume.ensures.number c.args.audiences.now c.watch.new.self c.requires.agree
    (rw watches c.in_ok-view.ensures.only)

use Rattle.std.proofs.Common.{refl, ap, ◌∙◌, rules, slice_set}
use Rattle.relay_patch.specs.Change.{all_changes}
use Rattle.relay_proto.specs.declared.reply.Reply.TheVariants.{Done}
use Rattle.relay_room.specs.Room.{State as Room}
use Rattle.relay_hub.specs.Session.{Session, replied}
use Rattle.relay_hub.specs.Step.{GoesOn}
use Rattle.relay_hub.proofs.Callers.{written_by, written_same, written_told}
use Rattle.relay_hub.proofs.Documents.{newest_changes}
use Rattle.relay_hub.proofs.Watching.{notified_agrees}
use Rattle.relay_hub.proofs.requests.edit.Goals as goal

pub reply-requires : goal.reply-requires
reply-requires c = c.requires.space c.session_mut.result.now c.session_mut.ensures.found

pub reply-requires-in-Err : goal.reply-requires-in-Err
reply-requires-in-Err c =
    c.requires.space c.session_mut-in-Err.result.now c.session_mut-in-Err.ensures.found

pub broadcast_and_trim-requires-clause-agree : goal.broadcast_and_trim-requires-clause-agree
broadcast_and_trim-requires-clause-agree c =
    let x = c.session_mut.result.now in
    let there = c.session_mut.ensures.found in
    let number = ap (λ (y : Session). y.number) c.reply.ensures in
    let view = ap (λ (y : Session). y.view) c.reply.ensures in
    written_same c.args.sessions.now c.args.asked.caller c.requires.caller x there c.reply.new.self
    number c.args.audiences.now c.requires.agree view

pub returns-in-Ok-clause-agree : goal.returns-in-Ok-clause-agree
returns-in-Ok-clause-agree c =
    let old = c.args.room.now in
    let notified : Room = c.edit.new.self in
    let changes = all_changes old.document c.args.asked.patch in
    let since =
    newest_changes old.history notified.history changes c.in-Ok.ensures.kept.history
    c.in-Ok.ensures.history in
    let all_notified =
    c.broadcast_and_trim.ensures.notified old.document changes since c.in-Ok.ensures.led in
    let xs = c.args.sessions.now in
    let ys = slice_set xs c.args.asked.caller.index c.reply.new.self in
    let x = c.session_mut.result.now in
    let there = c.session_mut.ensures.found in
    let number = ap (λ (y : Session). y.number) c.reply.ensures in
    let view = ap (λ (y : Session). y.view) c.reply.ensures in
    let replied =
    written_same xs c.args.asked.caller c.requires.caller x there c.reply.new.self number
    c.args.audiences.now c.requires.agree view in
    notified_agrees old.document changes notified c.args.config.waiting_weight
    c.args.config.telling_weight ys c.broadcast_and_trim.new.sessions
    c.broadcast_and_trim.result all_notified c.args.audiences.now replied

pub returns-clause-agree : goal.returns-clause-agree
returns-clause-agree c =
    let x = c.session_mut-in-Err.result.now in
    let there = c.session_mut-in-Err.ensures.found in
    let number = ap (λ (y : Session). y.number) c.reply-in-Err.ensures in
    let view = ap (λ (y : Session). y.view) c.reply-in-Err.ensures in
    written_same c.args.sessions.now c.args.asked.caller c.requires.caller x there
    c.reply-in-Err.new.self number c.args.audiences.now c.requires.agree view

pub returns-in-Ok-clause-told : goal.returns-in-Ok-clause-told
returns-in-Ok-clause-told c = λ t other absent.
    let xs = c.args.sessions.now in
    let was = c.session_mut.result.now in
    let there = c.session_mut.ensures.found in
    let number = ap (λ (y : Session). y.number) c.reply.ensures in
    c.broadcast_and_trim.ensures.told t absent
    ∙ written_told xs c.args.asked.caller c.requires.caller was there c.reply.new.self number
    c.broadcast_and_trim.new.report.told t other absent

pub returns-clause-told : goal.returns-clause-told
returns-clause-told c =
    let was = c.session_mut-in-Err.result.now in
    let there = c.session_mut-in-Err.ensures.found in
    let number = ap (λ (y : Session). y.number) c.reply-in-Err.ensures in
    written_told c.args.sessions.now c.args.asked.caller c.requires.caller was there
    c.reply-in-Err.new.self number c.args.report.now.told

pub returns-in-Ok-clause-ok : goal.returns-in-Ok-clause-ok
returns-in-Ok-clause-ok c = λ x e.
    let old = c.args.room.now in
    let notified : Room = c.edit.new.self in
    let patch = c.args.asked.patch in
    let changes = all_changes old.document patch in
    let since =
    newest_changes old.history notified.history changes c.in-Ok.ensures.kept.history
    c.in-Ok.ensures.history in
    let all_notified =
    c.broadcast_and_trim.ensures.notified old.document changes since c.in-Ok.ensures.led in
    let goes_on : GoesOn old patch notified.document notified = record {
      document = refl;
      history = c.in-Ok.ensures.history;
      leads = c.in-Ok.ensures.led;
      is = c.in-Ok.ensures.kept;
    } in
    let xs = c.args.sessions.now in
    let was = c.session_mut.result.now in
    let there = c.session_mut.ensures.found in
    let number = ap (λ (y : Session). y.number) c.reply.ensures in
    let done = replied (Done c.args.asked.id c.in-Ok.rev) in
    let only =
    written_by xs c.args.asked.caller c.requires.caller was there c.reply.new.self number done
    c.reply.ensures x e in
    let ys = slice_set xs c.args.asked.caller.index c.reply.new.self in
    rw c.in-Ok.ensures.document (
      notified,
      goes_on,
      ys,
      rw c.in-Ok.ensures.revision.1 at only,
      all_notified,
      c.broadcast_and_trim.ensures.trimmed,
    )

pub returns-clause-ok : goal.returns-clause-ok
returns-clause-ok c = λ x e.
    let xs = c.args.sessions.now in
    let was = c.session_mut-in-Err.result.now in
    let there = c.session_mut-in-Err.ensures.found in
    let number = ap (λ (y : Session). y.number) c.reply-in-Err.ensures in
    let refused = replied c.in-Some.reply in
    let only =
    written_by xs c.args.asked.caller c.requires.caller was there c.reply-in-Err.new.self number
    refused c.reply-in-Err.ensures x e in
    search (rules, only)

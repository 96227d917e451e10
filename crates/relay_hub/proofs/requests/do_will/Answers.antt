use Rattle.std.proofs.Common.{refl}
use Rattle.relay_patch.specs.Change.{all_changes}
use Rattle.relay_room.specs.Room.{State as Room}
use Rattle.relay_hub.specs.Step.{GoesOn}
use Rattle.relay_hub.proofs.Documents.{newest_changes}
use Rattle.relay_hub.proofs.Watching.{notified_agrees}
use Rattle.relay_hub.proofs.requests.do_will.Goals as goal

pub returns-in-Ok-clause-agree : goal.returns-in-Ok-clause-agree
returns-in-Ok-clause-agree c =
    let old = c.args.room.now in
    let notified : Room = c.edit.new.self in
    let changes = all_changes old.document c.args.patch.now in
    let since =
    newest_changes old.history notified.history changes c.in-Ok.ensures.kept.history
    c.in-Ok.ensures.history in
    let all_notified =
    c.broadcast_and_trim.ensures.notified old.document changes since c.in-Ok.ensures.led in
    notified_agrees old.document changes notified c.args.config.waiting_weight
    c.args.config.telling_weight c.args.sessions.now c.broadcast_and_trim.new.sessions
    c.broadcast_and_trim.result all_notified c.args.audiences.now c.requires.agree

pub returns-in-Ok-clause-done : goal.returns-in-Ok-clause-done
returns-in-Ok-clause-done c =
    let old = c.args.room.now in
    let notified : Room = c.edit.new.self in
    let patch = c.args.patch.now in
    let changes = all_changes old.document patch in
    let since =
    newest_changes old.history notified.history changes c.in-Ok.ensures.kept.history
    c.in-Ok.ensures.history in
    let all_notified =
    c.broadcast_and_trim.ensures.notified old.document changes since c.in-Ok.ensures.led in
    let goes_on : GoesOn old patch notified.document notified = record {
      document = refl;
      history = c.in-Ok.ensures.history;
      leads = c.in-Ok.ensures.led;
      is = c.in-Ok.ensures.kept;
    } in
    rw c.in-Ok.ensures.document
    (notified, goes_on, all_notified, c.broadcast_and_trim.ensures.trimmed)

use Rattle.std.proofs.Common.{◌≡◌, ◌∙◌, ap, subst, sym, arith}
use Rattle.relay_patch.specs.declared.bounds.TheConstants.Bounds.{DOCUMENT}
use Rattle.relay_history.specs.History.{IsHistory, with_revision}
use Rattle.relay_room.specs.Edit.{applied}
use Rattle.relay_room.specs.Room.{State}
use Rattle.relay_room.proofs.Bounded.{after_from_within}
use Rattle.relay_room.proofs.Edits.{edited_below}
use Rattle.relay_room.proofs.Rooms.{edited_is_room}
use Rattle.relay_room.proofs.room.Room.edit.Goals as goal

pub invariant_of-self-2 : goal.invariant_of-self-2
invariant_of-self-2 c =
    let room : State =
    record { document = c.self.inside.document; history = c.self.inside.history } in
    let changes = c.in_ok-changes.field-0.changes.items in
    let made : c.push.new.self ≡ with_revision changes room.history = c.push.ensures in
    let inside =
    after_from_within c.args.patch.now 0 0 DOCUMENT room.document c.apply_within.new.tree
    c.self.invariant.is.within c.in_ok-changes.ensures.document in
    let fit = c.in_ok-changes.ensures.sizes (omega arith) in
    record {
      is =
          rw made (edited_is_room room changes c.apply_within.new.tree c.self.invariant.is
          (subst IsHistory made c.newest.ensures.kept) inside fit c.in_ok-changes.ensures.led);
      weight = c.in_ok-changes.ensures.weight (omega arith);
    }

pub returns-clause-kept : goal.returns-clause-kept
returns-clause-kept c = (invariant_of-self-2 c).is

pub returns-clause-document : goal.returns-clause-document
returns-clause-document c =
    let room : State =
    record { document = c.self.inside.document; history = c.self.inside.history } in
    rw (← c.self.view_is)
    (edited_below room c.args.base c.args.patch.now (omega arith)
    (rw c.newest-present.ensures.newest at (sym c.if-not-is_for.ensures))
    ∙ ap applied c.in_ok-changes.ensures.document)

use Rattle.std.proofs.Common.{◌∙◌}
use Rattle.relay_patch.proofs.Carried.{move_gone}
use Rattle.relay_apply.proofs.Transfers.{transfer_fits, transfer_makes}
use Rattle.relay_apply.proofs.steps.make_judged.Goals as goal

pub weight_after-requires : goal.weight_after-requires
weight_after-requires c =
    let m = c.requires.makes in
    let move = c.in-Some.ensures.places in
    let took = c.displaced.ensures
    ∙ move_gone c.args.change.now c.args.tree.now c.in-Some.from.now c.in-Some.to.now
    move.0 c.remove_with_undo.new.tree move.1 c.in_ok-removed.ensures.made in
    (m.0, record { before = c.args.tree.now; made = m.1; took = took; was = c.requires.known })

pub returns-in-Err-clause-refused : goal.returns-in-Err-clause-refused
returns-in-Err-clause-refused c = λ other.
    let m = c.requires.makes in
    let move = c.in-Some.ensures.places in
    let took = c.displaced.ensures
    ∙ move_gone c.args.change.now c.args.tree.now c.in-Some.from.now c.in-Some.to.now
    move.0 c.remove_with_undo.new.tree move.1 c.in_ok-removed.ensures.made in (
      m.0,
      m.1,
      c.in-Err.ensures.err m.0
          (record { before = c.args.tree.now; made = m.1; took = took; was = c.requires.known }),
    )

pub finish_transfer-requires : goal.finish_transfer-requires
finish_transfer-requires c =
    let move = c.in-Some.ensures.places in
    transfer_fits c.args.change.now c.args.tree.now c.in-Some.from.now c.in-Some.to.now move.0
    c.remove_with_undo.new.tree c.in_ok-removed.removed.value move.1 c.requires.makes
    c.in_ok-removed.ensures.value c.in_ok-removed.ensures.made

pub returns-clause-made : goal.returns-clause-made
returns-clause-made c =
    let move = c.in-Some.ensures.places in
    transfer_makes c.args.change.now c.args.tree.now c.in-Some.from.now c.in-Some.to.now move.0
    c.remove_with_undo.new.tree c.in_ok-removed.removed.value move.1 c.requires.makes
    c.in_ok-removed.ensures.value c.finish_transfer.new.tree c.in_ok-removed.ensures.made
    c.in_ok-finish_transfer.ensures.made

pub returns-clause-known : goal.returns-clause-known
returns-clause-known c =
    let move = c.in-Some.ensures.places in
    let took = c.displaced.ensures
    ∙ move_gone c.args.change.now c.args.tree.now c.in-Some.from.now c.in-Some.to.now
    move.0 c.remove_with_undo.new.tree move.1 c.in_ok-removed.ensures.made in
    c.in-Ok.ensures.known c.finish_transfer.new.tree
    (record {
      before = c.args.tree.now;
      made = returns-clause-made c;
      took = took;
      was = c.requires.known;
    })

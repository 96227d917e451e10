use Rattle.std.proofs.Common.{◌++◌, [], ◌∷◌, ap, ◌∙◌}
use Rattle.relay_apply.proofs.Transfers.{transfer_fits}
use Rattle.relay_apply.proofs.Undone.{kept_back}
use Rattle.relay_apply.proofs.keeping.make_keeping.Goals as goal

pub finish_transfer-requires : goal.finish_transfer-requires
finish_transfer-requires c =
    let move = c.in-Some.ensures.places in
    transfer_fits c.args.change.now c.args.tree.now c.in-Some.from.now c.in-Some.to.now move.0
    c.remove_with_undo.new.tree c.in_ok-removed.removed.value move.1 c.requires
    c.in_ok-removed.ensures.value c.in_ok-removed.ensures.made

pub returns-in_default-clause-back : goal.returns-in_default-clause-back
returns-in_default-clause-back c =
    kept_back c.args.tree.now c.make_with_undo.new.tree c.args.kept.now.items
    c.push_reserved.new.self.items c.in_ok-undo.undo c.in_ok-undo.ensures.back
    (c.push_reserved.ensures.items
    ∙ ap (λ xs. xs ++ c.in_ok-undo.undo ∷ []) c.in_ok-reserve.ensures.items)

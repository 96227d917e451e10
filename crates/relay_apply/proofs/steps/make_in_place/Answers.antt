use Rattle.std.proofs.Common.{◌++◌, [], ◌∷◌, ap, ◌∙◌}
use Rattle.relay_apply.proofs.Undone.{kept_back}
use Rattle.relay_apply.proofs.steps.make_in_place.Goals as goal

pub returns-clause-back : goal.returns-clause-back
returns-clause-back c =
    kept_back c.args.tree.now c.make_with_undo.new.tree c.args.kept.now.items
    c.push_reserved.new.self.items c.in_ok-undo.undo c.in_ok-undo.ensures.back
    (c.push_reserved.ensures.items
    ∙ ap (λ xs. xs ++ c.in_ok-undo.undo ∷ []) c.in_ok-reserve.ensures.items)

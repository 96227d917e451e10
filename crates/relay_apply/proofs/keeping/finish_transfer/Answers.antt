use Rattle.std.proofs.Common.{◌++◌, [], ◌∷◌, ap, ◌∙◌}
use Rattle.relay_apply.specs.Undo.{reinserted}
use Rattle.relay_apply.specs.declared.undo.Undo.{Undo}
use Rattle.relay_apply.specs.declared.undo.Undo.TheVariants as undo
use Rattle.relay_apply.proofs.Undone.{kept_back, transfer_then_undone}
use Rattle.relay_apply.proofs.keeping.finish_transfer.Goals as goal

pub returns-in-Ok-clause-back : goal.returns-in-Ok-clause-back
returns-in-Ok-clause-back c =
    let reinsertion = c.args.removed.reinsertion in
    let v = c.args.removed.value in
    let d = c.args.tree.now in
    let k : Undo = undo.Transferred reinsertion c.in-Ok.to c.in-Ok.part in
    kept_back (reinserted reinsertion v d) c.reserve_and_put.new.tree c.args.kept.now.items
    c.push_reserved.new.self.items k
    (rw (
      c.in-Ok.ensures.part,
      c.in-Ok.ensures.place,
    )
    (transfer_then_undone reinsertion c.args.place.now v d c.reserve_and_put.new.tree
    c.in-Ok.ensures.made))
    (c.push_reserved.ensures.items ∙ ap (λ xs. xs ++ k ∷ []) c.in-Ok.ensures.kept)

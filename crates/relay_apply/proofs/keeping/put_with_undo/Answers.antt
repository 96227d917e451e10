use Rattle.std.proofs.Common.{◌∙◌}
use Rattle.relay_apply.proofs.Undone.{change_back, undo_of_put-removed}
use Rattle.relay_apply.proofs.keeping.put_with_undo.Goals as goal

pub returns-clause-back : goal.returns-clause-back
returns-clause-back c =
    rw (c.undo_of_put.ensures, c.in_ok-path.ensures, c.in_ok-part.ensures.went)
    (change_back c.args.change.now c.args.path.now c.args.tree.now c.make.new.tree c.requires.here
    c.in_ok-part.ensures.made)

pub returns-clause-went : goal.returns-clause-went
returns-clause-went c =
    rw c.undo_of_put.ensures (undo_of_put-removed c.in_ok-path.path c.in_ok-part.part
    ∙ c.in_ok-part.ensures.went)

use Rattle.std.proofs.Common.{refl, sym, ◌∙◌}
use Rattle.relay_pointer.specs.Path.{path_of}
use Rattle.relay_apply.proofs.Undone.{existing_drops, missing_refuses, undoes_insert}
use Rattle.relay_apply.proofs.Undone.{undoes_no_insert}
use Rattle.relay_apply.proofs.undo.remove_inserted.Goals as goal

pub remove_at-requires : goal.remove_at-requires
remove_at-requires c =
    existing_drops c.resolve_existing.result (path_of c.args.path.now) c.args.tree.now
    c.resolve_existing.ensures.item (sym c.is_ok.ensures.value ∙ c.if-is_ok.true)

pub returns-then-is_ok-clause-undone : goal.returns-then-is_ok-clause-undone
returns-then-is_ok-clause-undone c =
    undoes_insert (path_of c.args.path.now) c.args.tree.now c.remove_at.new.tree c.remove_at.result
    c.remove_at.ensures.value c.remove_at.ensures.rest

pub returns-else-is_ok-clause-undone : goal.returns-else-is_ok-clause-undone
returns-else-is_ok-clause-undone c =
    let fails =
    missing_refuses c.resolve_existing.result (path_of c.args.path.now) c.args.tree.now
    c.resolve_existing.ensures.item (sym c.is_ok.ensures.value ∙ c.if-is_ok.false) in
    undoes_no_insert (path_of c.args.path.now) c.args.tree.now fails.0 fails.1

pub returns-else-is_ok-clause-rest : goal.returns-else-is_ok-clause-rest
returns-else-is_ok-clause-rest c =
    let fails =
    missing_refuses c.resolve_existing.result (path_of c.args.path.now) c.args.tree.now
    c.resolve_existing.ensures.item (sym c.is_ok.ensures.value ∙ c.if-is_ok.false) in
    rw fails.1 refl

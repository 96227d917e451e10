use Rattle.std.proofs.Common.{◌≡◌, false, sym, ap, ◌∙◌, ◌∷◌, []}
use Rattle.relay_pointer.specs.Path.{is_proper_prefix}
use Rattle.relay_apply.proofs.ChangeOf.{move_stays, move_passes, move_refuses, move-change}
use Rattle.std.proofs.Common.{◌+◌, refl}
use Rattle.relay_pointer.specs.Weight.{path_weight}
use Rattle.relay_patch.specs.declared.op.Op.TheVariants.{Move}
use Rattle.relay_patch.specs.declared.change.Change.TheVariants as change
use Rattle.relay_apply.specs.Steps.{insert_place}
use Rattle.relay_apply.proofs.Overspent.{refused_within, unpaid_within}
use Rattle.relay_apply.proofs.change_of.change_of_move.Goals as goal
use Rattle.relay_tree.proofs.Outcomes.{err_and}

pub returns-then-stays-clause-ok : goal.returns-then-stays-clause-ok
returns-then-stays-clause-ok c =
    let there = rw c.tokens.ensures at c.in_ok-value.ensures.ok in
    let outside : is_proper_prefix c.args.from.now c.args.path.now ≡ false =
    sym c.is_proper_prefix.ensures ∙ c.if-is_proper_prefix.false in
    let place = rw (c.tokens-2.ensures, c.tokens-3.ensures) at c.stays.ensures.place in
    (move_stays c.args.from.now c.args.path.now c.args.tree.now c.in_ok-value.value.now
    c.stays.result there outside place c.if-stays.true).0

pub returns-then-stays-clause-changes : goal.returns-then-stays-clause-changes
returns-then-stays-clause-changes c =
    let there = rw c.tokens.ensures at c.in_ok-value.ensures.ok in
    let outside : is_proper_prefix c.args.from.now c.args.path.now ≡ false =
    sym c.is_proper_prefix.ensures ∙ c.if-is_proper_prefix.false in
    let place = rw (c.tokens-2.ensures, c.tokens-3.ensures) at c.stays.ensures.place in
    (move_stays c.args.from.now c.args.path.now c.args.tree.now c.in_ok-value.value.now
    c.stays.result there outside place c.if-stays.true).1

pub returns-in_err-insert_target-clause-err : goal.returns-in_err-insert_target-clause-err
returns-in_err-insert_target-clause-err c =
    let there = rw c.tokens.ensures at c.in_ok-value.ensures.ok in
    let outside : is_proper_prefix c.args.from.now c.args.path.now ≡ false =
    sym c.is_proper_prefix.ensures ∙ c.if-is_proper_prefix.false in
    let place = rw (c.tokens-2.ensures, c.tokens-3.ensures) at c.stays.ensures.place in
    let elsewhere = rw (
      c.tokens-2.ensures,
      c.tokens-3.ensures,
    ) at (c.stays.ensures.elsewhere c.if-stays.false) in
    let goes = rw c.if-stays.false at place in
    let resolved = rw (
      c.tokens-4.ensures,
      c.tokens-5.ensures,
    ) at c.in_err-insert_target.ensures.insert_target in
    err_and c.from_residual-in_err-insert_target.result
    c.from_residual-in_err-insert_target.ensures.1 (λ e is.
    rw is (refused_within c.args.tree.now (Move c.args.from.now c.args.path.now) c.args.left
    c.in_err-insert_target.field-0.0
    (move_refuses c.args.from.now c.args.path.now c.args.tree.now c.in_ok-value.value.now
    c.in_err-insert_target.field-0.0 there outside elsewhere goes resolved)
    c.in_err-insert_target.ensures.other))

pub returns-in_err-relocation-clause-err : goal.returns-in_err-relocation-clause-err
returns-in_err-relocation-clause-err c =
    let there = rw c.tokens.ensures at c.in_ok-value.ensures.ok in
    let outside : is_proper_prefix c.args.from.now c.args.path.now ≡ false =
    sym c.is_proper_prefix.ensures ∙ c.if-is_proper_prefix.false in
    let place = rw (c.tokens-2.ensures, c.tokens-3.ensures) at c.stays.ensures.place in
    let elsewhere = rw (
      c.tokens-2.ensures,
      c.tokens-3.ensures,
    ) at (c.stays.ensures.elsewhere c.if-stays.false) in
    let goes = rw c.if-stays.false at place in
    let resolved = rw (
      c.tokens-4.ensures,
      c.tokens-5.ensures,
    ) at c.in_ok-insert_target.ensures.insert_target in
    let item = rw c.tokens-6.ensures at c.is_item_at-item.ensures in
    let s = c.in_ok-insert_target.insert_target in
    let d = c.args.tree.now in
    let from = c.args.from.now in
    let path = c.args.path.now in
    let v = c.in_ok-value.value.now in
    let to = insert_place s path in
    err_and c.from_residual-in_err-relocation.result c.from_residual-in_err-relocation.ensures.1
    (λ e is.
    rw is (unpaid_within d (Move from path) c.args.left c.in_err-relocation.field-0.0
    (change.Move (record { path = from; item = c.is_item_at-item.result }) to v) v
    (path_weight from + path_weight to.path)
    (move_passes from path d v s there outside goes resolved)
    (move-change from path d v s c.is_item_at-item.result there outside elsewhere item goes
    resolved)
    refl c.in_err-relocation.ensures.unpaid))

pub returns-clause-ok : goal.returns-clause-ok
returns-clause-ok c =
    let there = rw c.tokens.ensures at c.in_ok-value.ensures.ok in
    let outside : is_proper_prefix c.args.from.now c.args.path.now ≡ false =
    sym c.is_proper_prefix.ensures ∙ c.if-is_proper_prefix.false in
    let place = rw (c.tokens-2.ensures, c.tokens-3.ensures) at c.stays.ensures.place in
    let elsewhere = rw (
      c.tokens-2.ensures,
      c.tokens-3.ensures,
    ) at (c.stays.ensures.elsewhere c.if-stays.false) in
    let goes = rw c.if-stays.false at place in
    let resolved = rw (
      c.tokens-4.ensures,
      c.tokens-5.ensures,
    ) at c.in_ok-insert_target.ensures.insert_target in
    move_passes c.args.from.now c.args.path.now c.args.tree.now c.in_ok-value.value.now
    c.in_ok-insert_target.insert_target there outside goes resolved

pub returns-clause-changes : goal.returns-clause-changes
returns-clause-changes c =
    let there = rw c.tokens.ensures at c.in_ok-value.ensures.ok in
    let outside : is_proper_prefix c.args.from.now c.args.path.now ≡ false =
    sym c.is_proper_prefix.ensures ∙ c.if-is_proper_prefix.false in
    let place = rw (c.tokens-2.ensures, c.tokens-3.ensures) at c.stays.ensures.place in
    let elsewhere = rw (
      c.tokens-2.ensures,
      c.tokens-3.ensures,
    ) at (c.stays.ensures.elsewhere c.if-stays.false) in
    let goes = rw c.if-stays.false at place in
    let resolved = rw (
      c.tokens-4.ensures,
      c.tokens-5.ensures,
    ) at c.in_ok-insert_target.ensures.insert_target in
    let item = rw c.tokens-6.ensures at c.is_item_at-item.ensures in
    ap (λ x. x ∷ []) c.in_ok-relocation.ensures.ok
    ∙ move-change c.args.from.now c.args.path.now c.args.tree.now c.in_ok-value.value.now
    c.in_ok-insert_target.insert_target c.is_item_at-item.result there outside elsewhere item
    goes resolved

use Rattle.relay_apply.proofs.Compared.{passed_test, failed_test}
use Rattle.relay_apply.proofs.change_of.change_of_test.Goals as goal
use Rattle.relay_tree.proofs.Outcomes.{is_ok_then}

pub returns-in-Ok-clause-ok : goal.returns-in-Ok-clause-ok
returns-in-Ok-clause-ok c =
    is_ok_then _ _ (passed_test c.args.path.now c.args.tree.now c.args.value.now c.in-Ok.part.now
    (rw c.tokens.ensures at c.in-Ok.ensures.ok) (c.same.ensures.0 c.if-same.true))

pub returns-in-Ok-2-clause-err : goal.returns-in-Ok-2-clause-err
returns-in-Ok-2-clause-err c = (
  λ _.
      failed_test c.args.path.now c.args.tree.now c.args.value.now c.in-Ok.part.now
      (rw c.tokens.ensures at c.in-Ok.ensures.ok) (λ e. let t = c.same.ensures.1 e in
      cc (c.if-same.false)),
  λ e. cc,
)

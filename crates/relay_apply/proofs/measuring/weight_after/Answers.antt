use Rattle.std.specs.Prelude.{option_copied}
use Rattle.relay_tree.proofs.Outcomes.{if_err}
use Rattle.relay_apply.proofs.Measures.{lost_known, judged_excess, foreseen}
use Rattle.relay_apply.proofs.measuring.weight_after.Goals as goal

pub judge-requires : goal.judge-requires
judge-requires c =
    lost_known c.args.bounds c.args.known c.args.change.now (option_copied c.args.went)
    c.requires.0 c.requires.1

pub returns-clause-known : goal.returns-clause-known
returns-clause-known c =
    foreseen c.args.bounds c.args.known c.args.change.now (option_copied c.args.went)
    c.judge.result c.judge.ensures.ok c.judge.ensures.weight

pub returns-clause-err : goal.returns-clause-err
returns-clause-err c =
    if_err c.judge.result c.judge.ensures.err (λ cause h next b.
    judged_excess c.args.bounds c.args.known c.args.change.now (option_copied c.args.went) next
    cause b h)

use Rattle.std.proofs.Common.{sym, refl, ◌∙◌}
use Rattle.relay_tree.proofs.Outcomes.{some_ok}
use Rattle.relay_patch.specs.Walk.{walk}
use Rattle.relay_patch.proofs.Exchanges.{exchanged}
use Rattle.relay_patch.proofs.Walks.{at-walk, at_reached, was_found}
use Rattle.relay_apply.proofs.exchange.exchange.Goals as goal

pub unwrap-requires : goal.unwrap-requires
unwrap-requires c =
    let part = some_ok (walk c.args.tree.now c.args.path.now) c.requires in
    rw (c.exchange.ensures.old, at_reached c.args.path.now c.args.tree.now part.0 part.1) refl

pub returns-clause-old : goal.returns-clause-old
returns-clause-old c =
    was_found (walk c.args.tree.now c.args.path.now) c.unwrap.result
    (at-walk c.args.path.now c.args.tree.now ∙ sym c.exchange.ensures.old ∙ c.unwrap.ensures)

pub returns-clause-new : goal.returns-clause-new
returns-clause-new c =
    exchanged c.args.path.now c.args.value c.args.tree.now c.exchange.new.whole c.exchange.result
    c.unwrap.result c.exchange.ensures.old c.unwrap.ensures c.exchange.ensures.found c.requires

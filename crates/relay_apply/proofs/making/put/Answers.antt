use Rattle.std.proofs.Common.{sym, ◌∙◌}
use Rattle.relay_apply.proofs.Puts.{taken_there, taken_put, taken_is, put_plainly}
use Rattle.relay_apply.proofs.making.put.Goals as goal

pub exchange-requires : goal.exchange-requires
exchange-requires c =
    taken_there c.args.place.now c.args.value c.args.tree.now (sym c.is_taken.ensures
    ∙ c.if-is_taken.true) c.requires

pub insert_at-requires : goal.insert_at-requires
insert_at-requires c =
    rw c.tokens.ensures (put_plainly c.args.place.now c.args.value c.args.tree.now c.requires)

pub returns-then-is_taken-clause-made : goal.returns-then-is_taken-clause-made
returns-then-is_taken-clause-made c =
    taken_put c.args.place.now c.args.value c.args.tree.now c.exchange.new.tree
    (sym c.is_taken.ensures ∙ c.if-is_taken.true) c.requires c.exchange.ensures.new

pub returns-then-is_taken-clause-went : goal.returns-then-is_taken-clause-went
returns-then-is_taken-clause-went c =
    taken_is c.args.place.now c.args.tree.now c.exchange.result (sym c.is_taken.ensures
    ∙ c.if-is_taken.true) c.exchange.ensures.old

-- A short value has nothing after 22 characters.
use Rattle.std.proofs.Common.{arith}
use Rattle.std.proofs.lemmas.List.{drop_all}
use Rattle.relay_shake.proofs.key.is_key.Goals as goal

pub returns-in-None : goal.returns-in-None
returns-in-None c =
    grind (arith, drop_all 22 c.args.value.now (omega (arith, c.in-None.ensures.cases)))

-- The text that `strip_prefix` finds is the text behind the prefix.
use Rattle.relay_admin.proofs.Prefixes.{stripped}
use Rattle.relay_admin.proofs.cut.behind.Goals as goal

pub returns : goal.returns
returns c =
    stripped c.args.prefix.now c.args.text.now c.strip_prefix.result c.strip_prefix.ensures.cases

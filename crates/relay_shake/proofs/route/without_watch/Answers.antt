-- The text that `strip_suffix` finds is the text before the suffix.
use Rattle.std.proofs.Common.{codes}
use Rattle.relay_shake.proofs.Suffixes.{stripped}
use Rattle.relay_shake.proofs.route.without_watch.Goals as goal

pub returns : goal.returns
returns c =
    stripped (codes "/watch") c.args.target.now c.strip_suffix.result c.strip_suffix.ensures.cases

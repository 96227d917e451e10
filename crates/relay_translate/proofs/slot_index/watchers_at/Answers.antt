use Rattle.std.proofs.Common.{◌∙◌}
use Rattle.relay_translate.proofs.Keys.{at_tokens}
use Rattle.relay_translate.proofs.slot_index.watchers_at.Goals as goal

pub returns : goal.returns
returns c = c.get.ensures.value ∙ at_tokens c.args.index.now c.args.path.now

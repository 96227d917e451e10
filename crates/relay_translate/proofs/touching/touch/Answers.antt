use Rattle.std.proofs.Common.{◌∙◌, ap}
use Rattle.relay_translate.specs.Touch.{touch}
use Rattle.relay_translate.proofs.Table.{change_table}
use Rattle.relay_translate.proofs.touching.touch.Goals as goal

pub returns-clause-table : goal.returns-clause-table
returns-clause-table c =
    c.touch_tokens.ensures ∙ ap (λ q. touch c.args.change.now q c.args.kind) c.tokens.ensures
    ∙ change_table c.args.change.now c.args.pointer.now c.args.kind

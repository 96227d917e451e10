-- The name alone was removed.
use Rattle.std.proofs.Common.{◌∙◌, ap, sym, false}
use Rattle.relay_link.specs.Entrance.{lets_in}
use Rattle.relay_link.proofs.Entering.{others_stay}
use Rattle.relay_link.proofs.entrance.Entrance.exclude.Goals as goal

pub returns-clause-others : goal.returns-clause-others
returns-clause-others c = λ name apart.
    others_stay c.args.room.now c.in-Only.names c.swap_remove.new.self false
    c.swap_remove.ensures.updates name apart ∙ sym (ap (λ e. lets_in e name) c.in-Only.is)

-- The texts that were heard, and then those that were told.
use Rattle.relay_link.proofs.Stopping.{draws_grow, stops_after}
use Rattle.relay_link.proofs.Telling.{exchanged}
use Rattle.relay_link.proofs.opened.hear_and_draw.Goals as goal

pub returns-clause-exchanges : goal.returns-clause-exchanges
returns-clause-exchanges g c =
    exchanged g.S.Read.remaining g.S.Write.contents _ _ _ _ _ _ _ c.in_ok-hear.ensures.drew
    c.in_ok-hear.ensures.hears c.in_ok-stop.ensures.passes c.in_ok-stop.ensures.tells

pub returns-clause-stop : goal.returns-clause-stop
returns-clause-stop g c =
    stops_after c.in_ok-stop.stop c.args.draws c.args.session c.draw_messages.new.hub
    c.args.events.now c.hear.new.events c.draw_messages.new.events c.draw_messages.new.socket
    (draws_grow c.hear.ensures.follows) c.hear.ensures.adds.draws_of
    c.in_ok-stop.ensures.stop

use Rattle.relay_delivery.proofs.Framing.{framed_if}
use Rattle.relay_delivery.proofs.turn.write_turn.Goals as goal

pub returns-clause-frames : goal.returns-clause-frames
returns-clause-frames g c =
    framed_if g.S.Read.remaining g.S.Write.contents c.write_turn.result c.args.hub.now
    c.write_turn.new.hub c.args.link.now c.write_turn.new.self c.args.draws
    c.write_turn.ensures.turns c.write_turn.ensures.frames

use Rattle.relay_delivery.proofs.Ahead.{delivers_turn}
use Rattle.relay_delivery.proofs.socket.hear_texts.Goals as goal

pub returns-clause-delivered : goal.returns-clause-delivered
returns-clause-delivered g c =
    λ b E hub next s events frames rest turn whole fit listens resumes keeps.
    delivers_turn g.S.Read.remaining b E hub next s events frames rest c.args.count
    c.args.follower.now c.hear_all.new.follower c.args.socket.now c.hear_all.new.socket turn
    c.hear_all.result
    c.hear_all.ensures.hears whole fit listens resumes keeps

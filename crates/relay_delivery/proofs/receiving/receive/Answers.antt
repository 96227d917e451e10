use Rattle.relay_delivery.proofs.Turns.{delivers, only_memory}
use Rattle.relay_delivery.proofs.receiving.receive.Goals as goal

pub returns-clause-delivered : goal.returns-clause-delivered
returns-clause-delivered c = λ b E hub next s events turn resumes keeps.
    delivers b E hub next s events c.args.frames.now c.args.follower.now c.receive_all.new.follower
    turn resumes keeps c.receive_all.result c.receive_all.ensures.hears

pub returns-clause-fails : goal.returns-clause-fails
returns-clause-fails c = λ b E hub next s events turn resumes keeps.
    only_memory b E hub next s events c.args.frames.now c.args.follower.now
    c.receive_all.new.follower turn resumes keeps c.receive_all.result
    c.receive_all.ensures.hears

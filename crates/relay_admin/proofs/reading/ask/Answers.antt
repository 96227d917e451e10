-- Each head gets its verdict, so the accepted are the admitted.
use Rattle.std.proofs.lemmas.Result.{IfOk-weaker}
use Rattle.relay_admin.proofs.Admitting.{admits_exactly}
use Rattle.relay_admin.proofs.reading.ask.Goals as goal

pub returns-clause-admits : goal.returns-clause-admits
returns-clause-admits c =
    IfOk-weaker c.answered.result _ _ (λ answer answers.
    admits_exactly c.args.bytes.now answer answers) c.answered.ensures.head

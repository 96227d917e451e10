-- A server whose hub cannot be made printed nothing.
use Rattle.std.proofs.lemmas.Result.{err_from_is_err_and}
use Rattle.relay_server.proofs.ServeLemmas.{ends_unmade}
use Rattle.relay_server.proofs.serve.serve_new.Goals as goal

pub returns-in_err-hub-clause-ends : goal.returns-in_err-hub-clause-ends
returns-in_err-hub-clause-ends g c =
    let p = err_from_is_err_and c.from_residual.result c.from_residual.ensures.1 in
    rw (p.1, p.2) (ends_unmade c.args.options.admin c.args.options.rounds _ _)

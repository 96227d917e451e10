-- The output is a prefix of both lines: a part of the first, or all of it and a part of the second.
use Rattle.std.proofs.lemmas.Result.{err_from_is_err_and}
use Rattle.relay_server.specs.Printed.{listening_text, turns_text}
use Rattle.relay_server.proofs.KeptLemmas.{begun_stood}
use Rattle.relay_server.proofs.ServeLemmas.{headline_after, headline_begun, part_front, then_all}
use Rattle.relay_server.proofs.ServeLemmas.{part_whole, then_part}
use Rattle.relay_server.proofs.serve.host.Goals as goal

pub returns-in_err-tell-clause-stopped : goal.returns-in_err-tell-clause-stopped
returns-in_err-tell-clause-stopped g c =
    let p = err_from_is_err_and c.from_residual.result c.from_residual.ensures.1 in
    rw p.1 (part_front _ _ (listening_text _) (turns_text c.args.rounds) c.in_err-tell.ensures.err)

pub returns-clause-done : goal.returns-clause-done
returns-clause-done g c =
    then_all c.tell-2.result _ _ _ (listening_text _) (turns_text c.args.rounds)
    c.in_ok-tell.ensures.ok c.tell-2.ensures.ok

pub returns-clause-stopped : goal.returns-clause-stopped
returns-clause-stopped g c =
    then_part c.tell-2.result _ _ _ (listening_text _) (turns_text c.args.rounds)
    c.in_ok-tell.ensures.ok c.tell-2.ensures.err

pub returns-in_err-tell-clause-headline : goal.returns-in_err-tell-clause-headline
returns-in_err-tell-clause-headline g c = headline_begun _ (begun_stood c.requires.begins)

pub returns-clause-headline : goal.returns-clause-headline
returns-clause-headline g c =
    headline_after _ (begun_stood c.requires.begins) c.run-run.ensures.rounds

pub returns-then-run-clause-stopped : goal.returns-then-run-clause-stopped
returns-then-run-clause-stopped g c =
    part_front _ _ (listening_text _) (turns_text c.args.rounds)
    (part_whole _ _ _ c.in_ok-tell.ensures.ok)

pub returns-then-run-clause-headline : goal.returns-then-run-clause-headline
returns-then-run-clause-headline g c =
    headline_after _ (begun_stood c.requires.begins) c.run-run.ensures.rounds

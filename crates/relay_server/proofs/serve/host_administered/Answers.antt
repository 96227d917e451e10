-- The output is a prefix of both lines: a part of the first, or all of it and a part of the second.
use Rattle.std.proofs.Common.{◌≡◌}
use Rattle.std.proofs.lemmas.Result.{err_from_is_err_and}
use Rattle.relay_event_loop.specs.Connections.{made_by, made_after}
use Rattle.relay_server.proofs.KeptLemmas.{begun_stood}
use Rattle.relay_server.proofs.ServeLemmas.{front_made, headline_after, headline_begun}
use Rattle.relay_server.proofs.ServeLemmas.{part_whole, then_all_made, then_part_made}
use Rattle.relay_server.proofs.serve.host_administered.Goals as goal

pub returns-in_err-tell-clause-stopped : goal.returns-in_err-tell-clause-stopped
returns-in_err-tell-clause-stopped g c =
    let p = err_from_is_err_and c.from_residual.result c.from_residual.ensures.1 in
    rw p.1 (front_made _ _ _ c.args.rounds c.in_err-tell.ensures.err)

pub returns-clause-done : goal.returns-clause-done
returns-clause-done g c =
    let ran = c.run_administered-made in
    then_all_made c.tell-2.result _ _ _ _ _ c.args.rounds (λ count.
    made_by ran.new.self ≡ made_after count c.args.server.now) ran.ensures.made ran.ensures.at_most
    c.in_ok-tell.ensures.ok c.tell-2.ensures.ok

pub returns-clause-stopped : goal.returns-clause-stopped
returns-clause-stopped g c =
    then_part_made c.tell-2.result _ _ _ _ _ c.args.rounds c.run_administered-made.ensures.at_most
    c.in_ok-tell.ensures.ok c.tell-2.ensures.err

pub returns-in_err-tell-clause-headline : goal.returns-in_err-tell-clause-headline
returns-in_err-tell-clause-headline g c = headline_begun _ (begun_stood c.requires.begins)

pub returns-clause-headline : goal.returns-clause-headline
returns-clause-headline g c =
    headline_after _ (begun_stood c.requires.begins) c.run_administered-made.ensures.rounds

pub returns-then-is_lost-clause-stopped : goal.returns-then-is_lost-clause-stopped
returns-then-is_lost-clause-stopped g c =
    front_made _ _ _ c.args.rounds (part_whole _ _ _ c.in_ok-tell.ensures.ok)

pub returns-then-is_lost-clause-headline : goal.returns-then-is_lost-clause-headline
returns-then-is_lost-clause-headline g c =
    headline_after _ (begun_stood c.requires.begins) c.run_administered-made.ensures.rounds

use Rattle.std.proofs.Common.{◌∙◌, sym, subst}
use Rattle.relay_audience.specs.Sessions.{IsRising}
use Rattle.relay_audience.proofs.SessionLists.{inserted_found, inserted_missing, inserted_rises}
use Rattle.relay_audience.proofs.session_list.insert.Goals as goal

pub returns-in-Ok-clause-ok : goal.returns-in-Ok-clause-ok
returns-in-Ok-clause-ok c =
    inserted_found c.args.numbers.now.items c.deref.result.now c.args.number c.in-Ok.field-0
    c.deref.ensures.value c.requires.rising c.in-Ok.ensures.position

pub returns-in_ok-insert-in-Err-clause-ok : goal.returns-in_ok-insert-in-Err-clause-ok
returns-in_ok-insert-in-Err-clause-ok c =
    c.in_ok-insert-in-Err.ensures.items
    ∙ inserted_missing c.args.numbers.now.items c.deref.result.now c.args.number c.in-Err.place
    c.deref.ensures.value c.requires.rising c.in-Err.ensures.position

pub returns-in_ok-insert-in-Err-clause-rising : goal.returns-in_ok-insert-in-Err-clause-rising
returns-in_ok-insert-in-Err-clause-rising c =
    subst IsRising (sym (returns-in_ok-insert-in-Err-clause-ok c))
    (inserted_rises c.args.number c.args.numbers.now.items c.requires.rising)

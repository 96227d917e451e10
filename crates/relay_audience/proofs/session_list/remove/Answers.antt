use Rattle.std.proofs.Common.{◌∙◌, sym, subst}
use Rattle.relay_audience.specs.Sessions.{IsRising}
use Rattle.relay_audience.proofs.SessionLists.{removed_found, removed_missing, removed_rises}
use Rattle.relay_audience.proofs.session_list.remove.Goals as goal

pub returns-in-Ok-clause-same : goal.returns-in-Ok-clause-same
returns-in-Ok-clause-same c =
    c.remove.ensures.items
    ∙ removed_found c.args.numbers.now.items c.deref.result.now c.args.number c.in-Ok.place
    c.deref.ensures.value c.requires.rising c.in-Ok.ensures.position

pub returns-in-Ok-clause-rising : goal.returns-in-Ok-clause-rising
returns-in-Ok-clause-rising c =
    subst IsRising (sym (returns-in-Ok-clause-same c))
    (removed_rises c.args.number c.args.numbers.now.items c.requires.rising)

pub returns-in_default-clause-same : goal.returns-in_default-clause-same
returns-in_default-clause-same c =
    removed_missing c.args.numbers.now.items c.deref.result.now c.args.number c.in_default.field-0
    c.deref.ensures.value c.requires.rising c.in_default.ensures.position

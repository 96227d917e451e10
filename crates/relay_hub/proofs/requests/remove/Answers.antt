use Rattle.std.proofs.Common.{◌∙◌, ap, sym, not, None, filter}
use Rattle.relay_audience.specs.Audiences.{ChangesViewOf}
use Rattle.relay_hub.specs.State.{is_number}
use Rattle.relay_hub.proofs.Rising.{left_rises}
use Rattle.relay_hub.proofs.Sessions.{filter_removes}
use Rattle.relay_hub.proofs.Watching.{shown, only_agrees, unchanged_view}
use Rattle.relay_hub.proofs.requests.remove.Goals as goal
use Rattle.relay_hub.proofs.requests.remove.Goals.{in-Some, in_default}

pub returns-clause-gone : goal.returns-clause-gone
returns-clause-gone c =
    rw c.take_session-session.ensures.others
    (filter_removes c.args.sessions.now.items c.args.number)

pub returns-clause-agree : goal.returns-clause-agree
returns-clause-agree c =
    let xs = c.args.sessions.now.items in
    let s = c.args.number in
    let old = c.args.audiences.now in
    let agree = c.requires.agree in
    let was = agree.agrees s ∙ ap shown c.take_session-session.ensures.session in
    let changes : ChangesViewOf s None old c.match-view.audiences =
    elim c.match-view.branch [
      | in-Some w ↦ rw w.audiences-is w.unwatch.ensures.only
      | in_default w ↦ rw w.audiences-is
          (unchanged_view old s None (was ∙ sym w.in_default.ensures))
    ] in
    rw c.take_session-session.ensures.others
    (only_agrees old c.match-view.audiences xs (filter (λ x. not (is_number s x)) xs) s None
    (filter_removes xs s) (left_rises xs s agree.rising) changes agree)

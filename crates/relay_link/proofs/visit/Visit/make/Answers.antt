-- The hub opened no session, or the one that it opened stayed.
use Rattle.std.proofs.Common.{◌∙◌, ap}
use Rattle.relay_link.proofs.Visiting.{visits_refused, visits_stayed}
use Rattle.relay_link.proofs.visit.Visit.make.Goals as goal
use Rattle.relay_link.proofs.visit.Visit.make.Goals.{in-Ok, in-Err}

pub returns-clause-visits : goal.returns-clause-visits
returns-clause-visits c = elim c.match-enter.branch [
  | in-Ok w ↦
      let events = c.in_ok-events.ensures in
      rw w.hub-is (visits_stayed _ _ _ _ _ _ _ (c.into_events.ensures ∙ w.events-is) _
      w.in-Ok.opening _ _ _ w.outcome-is (ap (λ v. v.items) w.texts-is)
      (rw events at w.in-Ok.ensures.opens) (rw events at w.in-Ok.ensures.passes)
      (rw events at w.in-Ok.ensures.adds) w.stay-outcome.ensures.opening
      w.stay-outcome.ensures.drew w.stay-outcome.ensures.passes w.stay-outcome.ensures.drew_all
      w.stay-outcome.ensures.few w.stay-outcome.ensures.adds)
  | in-Err w ↦
      let events = c.in_ok-events.ensures in
      rw w.hub-is (visits_refused _ _ _ _ _ _ _ (c.into_events.ensures ∙ w.events-is)
      w.in-Err.fault w.outcome-is (ap (λ v. v.items) w.texts-is ∙ c.in_ok-texts.ensures.items)
      (rw events at w.in-Err.ensures.opens) (rw events at w.in-Err.ensures.passes)
      (rw events at w.in-Err.ensures.adds))
]

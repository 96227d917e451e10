use Rattle.std.proofs.Common.{rules, sym, subst, ◌∙◌}
use Rattle.relay_room.specs.Room.{IsRoom}
use Rattle.relay_room.specs.CatchUp.{LeadsOn, Fits}
use Rattle.relay_room.proofs.Missed.{caught_up_present, caught_up_leads, caught_up_fits}
use Rattle.relay_room.proofs.room.Room.catch_up_within.Goals as goal

pub returns-clause-exact : goal.returns-clause-exact
returns-clause-exact c = search rules

pub returns-clause-present : goal.returns-clause-present
returns-clause-present c =
    λ now. returns-clause-exact c
    ∙ caught_up_present c.args.budget c.args.self.now c.args.rev c.args.view.now now

pub returns-clause-leads : goal.returns-clause-leads
returns-clause-leads c =
    subst (LeadsOn c.args.self.now c.args.rev c.args.view.now) (sym (returns-clause-exact c))
    (caught_up_leads c.args.budget c.args.self.now c.args.rev c.args.view.now)

pub returns-clause-sizes : goal.returns-clause-sizes
returns-clause-sizes c =
    let is : IsRoom c.args.self.now = subst IsRoom c.self.view_is c.self.invariant.is in
    subst Fits (sym (returns-clause-exact c))
    (caught_up_fits c.args.budget c.args.self.now c.args.rev c.args.view.now is)

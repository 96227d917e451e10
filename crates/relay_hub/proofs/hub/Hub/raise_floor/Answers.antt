use Rattle.std.proofs.Common.{◌≡◌, ℕ, ap}
use Rattle.relay_hub.specs.Representation.{hub_of}
use Rattle.relay_hub.specs.State.{State}
use Rattle.relay_hub.specs.Step.{raised_floor, Step, with_floor}
use Rattle.relay_hub.specs.declared.event.Answer.TheVariants.{FloorRaised}
use Rattle.relay_hub.specs.declared.event.Event.TheVariants.{RaiseFloor}
use Rattle.relay_hub.proofs.Members.{step_is_hub}
use Rattle.relay_hub.proofs.Stands.{step_stands}
use Rattle.relay_hub.proofs.hub.Hub.raise_floor.Goals as goal

step : (hub : State) (rev floor : ℕ) → floor ≡ raised_floor rev hub.floor
    → Step hub (RaiseFloor rev) FloorRaised (with_floor floor hub)
step hub rev floor risen = ap (λ n. with_floor n hub) risen

pub invariant_of-self : goal.invariant_of-self
invariant_of-self c =
    let hub = hub_of c.self.inside in (
      step_is_hub hub (with_floor c.raised_floor-risen.result hub) (RaiseFloor c.args.rev)
          FloorRaised c.self.invariant.0 (step hub c.args.rev _ c.raised_floor-risen.ensures),
      c.self.invariant.1,
    )

pub returns-clause-step : goal.returns-clause-step
returns-clause-step c =
    rw (← c.self.view_is)
    (step (hub_of c.self.inside) c.args.rev _ c.raised_floor-risen.ensures)

pub returns-clause-stands : goal.returns-clause-stands
returns-clause-stands c =
    let hub = hub_of c.self.inside in
    rw (← c.self.view_is) (λ b E h.
    step_stands b E hub (with_floor c.raised_floor-risen.result hub) (RaiseFloor c.args.rev)
    FloorRaised h (step hub c.args.rev _ c.raised_floor-risen.ensures))

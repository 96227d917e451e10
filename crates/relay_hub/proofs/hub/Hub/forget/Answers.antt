use Rattle.std.proofs.Common.{◌≡◌, ◌∙◌, Some, refl, sym}
use Rattle.relay_hub.specs.Call.{StepIf, forgetting}
use Rattle.relay_hub.specs.Representation.{hub_of}
use Rattle.relay_hub.specs.State.{State, index_named}
use Rattle.relay_hub.specs.declared.event.Event.TheVariants.{Forget}
use Rattle.relay_hub.proofs.Forgetting.{fault_is}
use Rattle.relay_hub.proofs.OpenFaults.{index_is}
use Rattle.relay_hub.proofs.Representation.{written, hub_with, forgets, stays_hub}
use Rattle.relay_hub.proofs.Stands.{call_stands}
use Rattle.relay_hub.proofs.hub.Hub.forget.Goals as goal

pub returns-in_default-clause-step : goal.returns-in_default-clause-step
returns-in_default-clause-step c =
    let none =
    sym (c.get_index_of.ensures.index
    ∙ index_is c.args.room.now c.self.inside.rooms.entries) ∙ c.in_default.is in
    rw (← c.self.view_is, none) (refl, refl)

at : (c : goal.After-self-2-1)
    → index_named c.args.room.now (hub_of c.self.inside).rooms ≡ Some c.in-Some.index
at c =
    sym (c.get_index_of.ensures.index ∙ index_is c.args.room.now c.self.inside.rooms.entries)
    ∙ c.in-Some.is

abbrev after : goal.After-self-2-1 → State
after c = hub_with c.self.inside c.in-Some.index c.forget.new.self

step : (c : goal.After-self-2-1)
    → StepIf (hub_of c.self.inside) (Forget c.args.room.now) (forgetting c.forget.result)
    (after c)
step c =
    forgets c.self.inside c.args.room.now c.in-Some.index c.in-Some-get_index_mut.room_sessions.now
    c.forget.new.self c.forget.result (at c)
    (sym c.in-Some-get_index_mut.ensures.value) c.forget.ensures.ok c.forget.ensures.may
    c.forget.ensures.fault c.forget.ensures.err

pub invariant_of-self : goal.invariant_of-self
invariant_of-self c = (
  stays_hub (hub_of c.self.inside) (after c) (Forget c.args.room.now)
      (forgetting c.forget.result) c.self.invariant.0 (step c),
  c.self.invariant.1,
)

pub returns-clause-step : goal.returns-clause-step
returns-clause-step c = rw (← c.self.view_is) (step c)

pub returns-clause-stands : goal.returns-clause-stands
returns-clause-stands c =
    rw (← c.self.view_is) (λ b E h.
    call_stands b E (hub_of c.self.inside) (after c) (Forget c.args.room.now)
    (forgetting c.forget.result) h (step c))

pub returns-clause-no_memory : goal.returns-clause-no_memory
returns-clause-no_memory c = λ e.
    let g = c.in-Some-get_index_mut.room_sessions.now in
    let w =
    written c.self.inside.rooms.entries c.in-Some.index g g
    (sym c.in-Some-get_index_mut.ensures.value) in
    rw (← c.self.view_is) (fault_is (hub_of c.self.inside) c.args.room.now c.in-Some.index (
      w.name,
      g,
    ) (at c) w.was ∙ c.forget.ensures.no_memory e)

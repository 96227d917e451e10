use Rattle.std.proofs.Common.{◌≡◌, ◌∙◌, Some, refl, sym}
use Rattle.relay_hub.specs.Call.{StepIf, adopting}
use Rattle.relay_hub.specs.Representation.{hub_of}
use Rattle.relay_hub.specs.State.{State, index_named}
use Rattle.relay_hub.specs.declared.event.Event.TheVariants.{Adopt}
use Rattle.relay_hub.proofs.Forgetting.{adopt_fault_is}
use Rattle.relay_hub.proofs.OpenFaults.{index_is}
use Rattle.relay_hub.proofs.Representation.{written, hub_with, adopts, stays_hub}
use Rattle.relay_hub.proofs.Stands.{call_stands}
use Rattle.relay_hub.proofs.hub.Hub.adopt.Goals as goal

pub returns-in_default-clause-step : goal.returns-in_default-clause-step
returns-in_default-clause-step c =
    let none =
    sym (c.get_index_of.ensures.index
    ∙ index_is c.args.room.now c.self.inside.rooms.entries) ∙ c.in_default.is in
    rw (← c.self.view_is, none) (refl, refl)

at : (c : goal.After-self-2-1)
    → index_named c.args.room.now (hub_of c.self.inside).rooms ≡ Some c.in-Some.index
at c =
    sym (c.get_index_of.ensures.index ∙ index_is c.args.room.now c.self.inside.rooms.entries)
    ∙ c.in-Some.is

abbrev after : goal.After-self-2-1 → State
after c = hub_with c.self.inside c.in-Some.index c.begin_anew.new.self

step : (c : goal.After-self-2-1)
    → StepIf (hub_of c.self.inside) (Adopt c.args.room.now c.args.rev c.args.document)
    (adopting c.begin_anew.result) (after c)
step c =
    adopts c.self.inside c.args.room.now c.args.rev c.args.document c.in-Some.index
    c.in-Some-get_index_mut.room_sessions.now c.begin_anew.new.self c.begin_anew.result (at c)
    (sym c.in-Some-get_index_mut.ensures.value) c.begin_anew.ensures.ok c.begin_anew.ensures.may
    c.begin_anew.ensures.fault c.begin_anew.ensures.err

pub invariant_of-self : goal.invariant_of-self
invariant_of-self c = (
  stays_hub (hub_of c.self.inside) (after c) (Adopt c.args.room.now c.args.rev c.args.document)
      (adopting c.begin_anew.result) c.self.invariant.0 (step c),
  c.self.invariant.1,
)

pub returns-clause-step : goal.returns-clause-step
returns-clause-step c = rw (← c.self.view_is) (step c)

pub returns-clause-stands : goal.returns-clause-stands
returns-clause-stands c =
    rw (← c.self.view_is) (λ b E h.
    call_stands b E (hub_of c.self.inside) (after c)
    (Adopt c.args.room.now c.args.rev c.args.document) (adopting c.begin_anew.result) h (step c))

pub returns-clause-no_memory : goal.returns-clause-no_memory
returns-clause-no_memory c = λ e.
    let g = c.in-Some-get_index_mut.room_sessions.now in
    let w =
    written c.self.inside.rooms.entries c.in-Some.index g g
    (sym c.in-Some-get_index_mut.ensures.value) in
    let is =
    adopt_fault_is (hub_of c.self.inside) c.args.room.now c.args.rev c.args.document c.in-Some.index
    (w.name, g) (at c) w.was in
    rw (← c.self.view_is) (is ∙ c.begin_anew.ensures.no_memory e)

use Rattle.std.proofs.Common.{rules, ◌+◌, refl}
use Rattle.relay_hub.specs.Call.{opening as opening_as}
use Rattle.relay_hub.specs.Representation.{hub_of}
use Rattle.relay_hub.specs.State.{State}
use Rattle.relay_hub.specs.Step.{Step}
use Rattle.relay_hub.specs.declared.event.Opening.{Opening}
use Rattle.relay_hub.specs.declared.event.Answer.TheVariants.{Opened}
use Rattle.relay_hub.specs.declared.event.Event.TheVariants.{Open}
use Rattle.relay_hub.proofs.Members.{step_is_hub}
use Rattle.relay_hub.proofs.OpenFaults.{enters_at}
use Rattle.relay_hub.proofs.Stands.{step_stands, call_stands}
use Rattle.relay_hub.proofs.hub.Hub.open.Goals as goal

abbrev entered : goal.After-self-2-1 → State
entered c =
    let hub = c.self.inside in
    hub_of
    (record
    hub {
      next = hub.next + 1;
      floor = c.floor_after.result;
      rooms = c.open_session.new.rooms;
      homes = c.insert.new.self;
    })

abbrev opening : goal.After-self-2-1 → Opening
opening c = record { session = c.self.inside.next; rev = c.in-Ok.rev }

step : (c : goal.After-self-2-1)
    → Step (hub_of c.self.inside) (Open c.args.room.now c.args.access) (Opened (opening c))
    (entered c)
step c =
    let admitted = rw (← c.self.view_is) at c.in_ok-index.ensures.admitted in
    let named = rw (← c.self.view_is) at c.in_ok-index.ensures.ok in (
      admitted,
      record {
        number = refl;
        next = refl;
        config = refl;
        floor = rw (← c.self.view_is, named) at c.floor_after.ensures.floor;
        index = c.in-Ok.index;
        enters =
            enters_at (hub_of c.self.inside) c.args.room.now c.args.access (opening c)
            c.in_ok-index.index c.vacant_for.result c.in-Ok.index (entered c)
            (rw (← c.self.view_is) at c.vacant_for.ensures.new) named c.in-Ok.ensures.ok;
        home = search rules;
        count = search rules;
        wills = refl;
      },
    )

pub invariant_of-self-2 : goal.invariant_of-self-2
invariant_of-self-2 c = (
  step_is_hub (hub_of c.self.inside) (entered c) (Open c.args.room.now c.args.access)
      (Opened (opening c)) c.self.invariant.0 (step c),
  c.self.invariant.1,
)

pub returns-clause-stands : goal.returns-clause-stands
returns-clause-stands c =
    rw (← c.self.view_is) (λ b E h.
    step_stands b E (hub_of c.self.inside) (entered c) (Open c.args.room.now c.args.access)
    (Opened (opening c)) h (step c))

pub returns-in_err-index-clause-stands : goal.returns-in_err-index-clause-stands
returns-in_err-index-clause-stands c =
    λ b E h.
    call_stands b E c.args.self.now c.args.self.now (Open c.args.room.now c.args.access)
    (opening_as c.from_residual.result) h (search rules)

pub returns-clause-step : goal.returns-clause-step
returns-clause-step c = rw (← c.self.view_is) (step c)

use Rattle.std.proofs.Common.{sym}
use Rattle.relay_hub.specs.Call.{StepIf, receiving}
use Rattle.relay_hub.specs.Representation.{hub_of}
use Rattle.relay_hub.specs.State.{RoomSessions}
use Rattle.relay_hub.specs.declared.event.Event.TheVariants.{Receive}
use Rattle.relay_hub.proofs.Representation.{never_missing, is_there, hears, hub_with, receives}
use Rattle.relay_hub.proofs.Representation.{stays_hub}
use Rattle.relay_hub.proofs.Promises.{refuses_edits}
use Rattle.relay_hub.proofs.Stands.{call_stands}
use Rattle.relay_hub.proofs.hub.Hub.receive.Goals as goal

abbrev left : goal.After-self-3-1 → RoomSessions
left c = c.receive.new.self

step : (c : goal.After-self-3-1)
    → StepIf (hub_of c.self.inside) (Receive c.args.session c.args.text.now)
    (receiving c.receive.result) (hub_with c.self.inside c.in-Some.index.now (left c))
step c =
    let g = c.in-Some-get_index_mut.room_sessions.now in
    receives c.self.inside c.args.session c.in-Some.index.now g (left c)
    (sym c.in-Some.ensures.value) (sym c.in-Some-get_index_mut.ensures.value) c.args.text.now
    (receiving c.receive.result) c.receive.ensures.step

pub unreachable-requires : goal.unreachable-requires
unreachable-requires c =
    never_missing c.self.inside c.args.session c.in-Some.index.now c.self.invariant.0
    (sym c.in-Some.ensures.value) (sym c.in_default-get_index_mut.ensures.value)

pub receive-requires : goal.receive-requires
receive-requires c =
    is_there c.self.inside c.args.session c.in-Some.index.now c.self.invariant.0
    (sym c.in-Some.ensures.value) c.in-Some-get_index_mut.room_sessions.now
    (sym c.in-Some-get_index_mut.ensures.value)

pub invariant_of-self : goal.invariant_of-self
invariant_of-self c = (
  stays_hub (hub_of c.self.inside) (hub_with c.self.inside c.in-Some.index.now (left c))
      (Receive c.args.session c.args.text.now) (receiving c.receive.result) c.self.invariant.0
      (step c),
  c.self.invariant.1,
)

pub returns : goal.returns
returns c =
    let old = hub_of c.self.inside in
    let new = hub_with c.self.inside c.in-Some.index.now (left c) in
    let event = Receive c.args.session c.args.text.now in
    rw (← c.self.view_is) (record {
      step = step c;
      stands = λ b E h. call_stands b E old new event (receiving c.receive.result) h (step c);
      refused = refuses_edits old new c.args.session c.args.text.now c.receive.result (step c);
      no_memory =
          λ e.
          hears c.self.inside c.args.session c.in-Some.index.now c.self.invariant.0
          (sym c.in-Some.ensures.value) c.in-Some-get_index_mut.room_sessions.now
          (sym c.in-Some-get_index_mut.ensures.value)
          (c.receive.ensures.no_memory e);
    })

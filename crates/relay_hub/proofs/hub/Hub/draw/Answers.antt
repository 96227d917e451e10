use Rattle.std.proofs.Common.{◌≡◌, sym, ap, subst}
use Rattle.relay_hub.specs.Call.{StepIf, drawing}
use Rattle.relay_hub.specs.Representation.{hub_of}
use Rattle.relay_hub.specs.State.{RoomSessions, State}
use Rattle.relay_hub.specs.declared.event.Event.TheVariants.{Draw}
use Rattle.relay_hub.proofs.Representation.{never_missing, is_there, session_is, hub_with, draws}
use Rattle.relay_hub.proofs.Representation.{stays_hub}
use Rattle.relay_hub.proofs.Stands.{call_stands}
use Rattle.relay_hub.proofs.hub.Hub.draw.Goals as goal

abbrev left : goal.After-bound_texts → RoomSessions
left c = c.draw-text.new.self

-- the hub with the rooms whose texts are bounded
abbrev bounded : goal.After-bound_texts → State
bounded c = hub_of (record c.self.inside { rooms = c.bound_texts.new.rooms })

same : (c : goal.After-bound_texts)
    → bounded c ≡ hub_with c.self.inside c.in-Some.index.now (left c)
same c =
    ap (λ rooms.
    record {
      config = c.self.inside.config;
      next = c.self.inside.next;
      floor = c.self.inside.floor;
      rooms = rooms;
      homes = c.self.inside.homes.entries;
      wills = c.self.inside.wills.items;
    }) c.bound_texts.ensures

step : (c : goal.After-bound_texts)
    → StepIf (hub_of c.self.inside) (Draw c.args.session) (drawing c.draw-text.result) (bounded c)
step c =
    let g = c.in-Some-get_index_mut.room_sessions.now in
    subst (λ new. StepIf (hub_of c.self.inside) (Draw c.args.session) (drawing c.draw-text.result)
    new) (sym (same c))
    (draws c.self.inside c.args.session c.in-Some.index.now g (left c) (sym c.in-Some.ensures.value)
    (sym c.in-Some-get_index_mut.ensures.value) (drawing c.draw-text.result)
    c.draw-text.ensures.step)

pub unreachable-requires : goal.unreachable-requires
unreachable-requires c =
    never_missing c.self.inside c.args.session c.in-Some.index.now c.self.invariant.0
    (sym c.in-Some.ensures.value) (sym c.in_default-get_index_mut.ensures.value)

pub draw-text-requires : goal.draw-text-requires
draw-text-requires c =
    is_there c.self.inside c.args.session c.in-Some.index.now c.self.invariant.0
    (sym c.in-Some.ensures.value) c.in-Some-get_index_mut.room_sessions.now
    (sym c.in-Some-get_index_mut.ensures.value)

pub invariant_of-self : goal.invariant_of-self
invariant_of-self c = (
  stays_hub (hub_of c.self.inside) (bounded c) (Draw c.args.session) (drawing c.draw-text.result)
      c.self.invariant.0 (step c),
  c.self.invariant.1,
)

pub returns : goal.returns
returns c =
    let old = hub_of c.self.inside in
    let is =
    session_is c.self.inside c.args.session c.in-Some.index.now c.self.invariant.0
    (sym c.in-Some.ensures.value) c.in-Some-get_index_mut.room_sessions.now
    (sym c.in-Some-get_index_mut.ensures.value) in
    rw (← c.self.view_is) (record {
      step = step c;
      stands =
          λ b E h.
          call_stands b E old (bounded c) (Draw c.args.session) (drawing c.draw-text.result) h
          (step c);
      empty = λ e. rw is (c.draw-text.ensures.empty e);
      no_memory = λ e. rw is (c.draw-text.ensures.no_memory e);
    })

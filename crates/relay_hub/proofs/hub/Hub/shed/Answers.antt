use Rattle.std.proofs.Common.{◌∙◌, ap, sym, subst, map, List, ℕ}
use Rattle.relay_hub.specs.Representation.{hub_of, rooms_of}
use Rattle.relay_hub.specs.Shed.{shed_named}
use Rattle.relay_hub.specs.Stands.{StandsFor}
use Rattle.relay_hub.specs.State.{RoomSessions, State, IsHub}
use Rattle.relay_hub.specs.declared.hub.Hub.TheInside.{Inside}
use Rattle.relay_hub.proofs.Shedding.{shed_is_hub, shed_stands}
use Rattle.relay_hub.proofs.hub.Hub.shed.Goals as goal

abbrev with_rooms : Inside → List (List ℕ × RoomSessions) → State
with_rooms h rooms =
    record {
      config = h.config;
      next = h.next;
      floor = h.floor;
      rooms = rooms;
      homes = h.homes.entries;
      wills = h.wills.items;
    }

pub invariant_of-self : goal.invariant_of-self
invariant_of-self c =
    let h = c.self.inside in
    let is = c.shed_rooms.ensures
    ∙ ap (λ w. map (shed_named w) (rooms_of h.rooms.entries)) c.shed_budget.ensures in (
      subst (λ rooms. IsHub (with_rooms h rooms)) (sym is)
          (shed_is_hub (hub_of h) c.self.invariant.0),
      c.self.invariant.1,
    )

pub returns-clause-stands : goal.returns-clause-stands
returns-clause-stands c =
    let h = c.self.inside in
    let is = c.shed_rooms.ensures
    ∙ ap (λ w. map (shed_named w) (rooms_of h.rooms.entries)) c.shed_budget.ensures in
    rw (← c.self.view_is) (λ b E stands.
    subst (λ rooms. StandsFor b E (with_rooms h rooms)) (sym is)
    (shed_stands b E (hub_of h) stands))

use Rattle.std.proofs.Common.{◌≡◌, ◌∙◌, ap, sym, rules, ℕ, List, Option, Some, slice_get}
use Rattle.relay_hub.specs.Representation.{hub_of, rooms_of}
use Rattle.relay_hub.specs.State.{RoomSessions}
use Rattle.relay_hub.proofs.Floors.{floor_count, floor_is}
use Rattle.relay_hub.proofs.Representation.{room_at}
use Rattle.relay_hub.proofs.Rooms.{vacant, vacant_makes}
use Rattle.relay_hub.proofs.hub.Hub.floor_after.Goals as goal

-- one room is at an index
same_room : (rooms : List (List ℕ
    × RoomSessions)) (i : ℕ) (one other : List ℕ) (g h : RoomSessions)
    → slice_get rooms i ≡ Some (one, g) → slice_get rooms i ≡ Some (other, h) → g ≡ h
same_room rooms i one other g h at there =
    let both : ◌≡◌ {A = Option (List ℕ × RoomSessions)} (Some (one, g)) (Some (other, h)) =
    sym at ∙ there in
    let same : ◌≡◌ {A = List ℕ × RoomSessions} (one, g) (other, h) = cc in
    ap (λ (r : List ℕ × RoomSessions). r.1) same

pub above-requires : goal.above-requires
above-requires c =
    let rooms = rooms_of c.self.inside.rooms.entries in
    let g = c.in-Some-get_index.room_sessions.now in
    let i = c.in-Some.vacant in
    let v =
    vacant c.self.inside.config.rooms c.self.inside.wills.items rooms i
    (sym c.in-Some.ensures) in
    let at =
    room_at c.self.inside.rooms.entries i c.in-Some-get_index.field-0-0.now g
    (sym c.in-Some-get_index.ensures.entry) in
    rw (same_room rooms i _ v.name g v.room_sessions at v.there) (vacant_makes rooms i v)

pub returns-clause-floor : goal.returns-clause-floor
returns-clause-floor c =
    let g = c.in-Some-get_index.room_sessions.now in
    let i = c.in-Some.vacant in
    let at =
    room_at c.self.inside.rooms.entries i c.in-Some-get_index.field-0-0.now g
    (sym c.in-Some-get_index.ensures.entry) in
    rw (
      ← c.self.view_is,
      floor_is (hub_of c.self.inside) c.args.index i _ g (sym c.if-is_some.ensures)
          (sym c.in-Some.ensures) at,
    ) (search rules)

pub returns-clause-count : goal.returns-clause-count
returns-clause-count c =
    let g = c.in-Some-get_index.room_sessions.now in
    let i = c.in-Some.vacant in
    let at =
    room_at c.self.inside.rooms.entries i c.in-Some-get_index.field-0-0.now g
    (sym c.in-Some-get_index.ensures.entry) in
    let is =
    floor_is (hub_of c.self.inside) c.args.index i _ g (sym c.if-is_some.ensures)
    (sym c.in-Some.ensures) at in
    let count = floor_count (hub_of c.self.inside) c.args.index c.self.invariant.0.floor in
    rw (c.max.ensures, c.above.ensures) (rw is at count)

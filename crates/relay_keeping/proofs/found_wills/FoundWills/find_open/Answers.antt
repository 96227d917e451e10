use Rattle.std.proofs.Common.{ℕ, List, [], ap, ap₂, subst}
use Rattle.std.specs.List.{flat_map}
use Rattle.std.specs.Option.{option_map_or}
use Rattle.relay_hub.specs.State.{RoomSessions}
use Rattle.relay_hub.specs.Summary.{Summary}
use Rattle.relay_keeping.specs.Wills.{Finds, open_will, wills_in}
use Rattle.relay_keeping.proofs.Gathering.{all_before, none_found, room_found}
use Rattle.relay_keeping.proofs.Walking.{found_more}
use Rattle.relay_keeping.proofs.found_wills.FoundWills.find_open.Goals as goal

pub loop-index-preserved : goal.loop-index-preserved
loop-index-preserved c =
    let rooms = c.args.hub.now.rooms in
    let noted = c.args.noted.now.entries in
    let i = c.loop-index.index in
    let there = room_found _ _ c.in-Some.ensures in
    found_more wills_in noted rooms i there.0 c.args.self.now c.loop-index.self
    c.find_in_room.new.self there.1 c.loop-index.invariant
    (subst (λ wills. Finds noted wills c.loop-index.self c.find_in_room.new.self)
    (ap₂ (λ name sessions. flat_map (open_will name) sessions)
    (ap (λ (s : Summary). s.name) there.2)
    (ap (λ room. option_map_or (λ (r : List ℕ × RoomSessions). r.1.sessions) room []) there.1))
    c.in_ok-find_in_room.ensures)

pub returns-in_default : goal.returns-in_default
returns-in_default c =
    let rooms = c.args.hub.now.rooms in
    subst (λ rooms. Finds c.args.noted.now.entries (flat_map wills_in rooms) c.args.self.now
    c.loop-index.self)
    (all_before rooms c.loop-index.index (none_found _ c.in_default.ensures))
    c.loop-index.invariant

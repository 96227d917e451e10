use Rattle.std.proofs.Common.{ap, subst}
use Rattle.std.specs.List.{flat_map}
use Rattle.relay_hub.specs.Log.{left_in}
use Rattle.relay_hub.specs.SessionWill.{HeldWill}
use Rattle.relay_keeping.specs.Wills.{Finds, open_will, sessions_at}
use Rattle.relay_keeping.proofs.Gathering.{all_before}
use Rattle.relay_keeping.proofs.Walking.{found_more, none_at, session_found}
use Rattle.relay_keeping.proofs.found_wills.FoundWills.find_in_room.Goals as goal

pub loop-place-preserved : goal.loop-place-preserved
loop-place-preserved c =
    let hub = c.args.hub.now in
    let noted = c.args.noted.now.entries in
    let name = c.args.room.now in
    let place = c.loop-place.place in
    let there = session_found hub c.args.index place _ c.in-Some.ensures.will in
    found_more (open_will name) noted (sessions_at hub c.args.index) place there.0
    c.args.self.now c.loop-place.self c.find_held.new.self there.1 c.loop-place.invariant
    (subst (λ wills. Finds noted wills c.loop-place.self c.find_held.new.self)
    (ap (λ (held : HeldWill). left_in held.session held.number name held.patch) there.2)
    c.in_ok-find_held.ensures)

pub returns-in_default : goal.returns-in_default
returns-in_default c =
    let hub = c.args.hub.now in
    let sessions = sessions_at hub c.args.index in
    let place = c.loop-place.place in
    subst (λ xs. Finds c.args.noted.now.entries (flat_map (open_will c.args.room.now) xs)
    c.args.self.now c.loop-place.self)
    (all_before sessions place (none_at hub c.args.index place c.in_default.ensures.will))
    c.loop-place.invariant

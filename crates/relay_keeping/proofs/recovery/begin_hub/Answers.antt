use Rattle.std.proofs.Common.{◌≤◌, [], ap, arith, length, map, subst, sym}
use Rattle.std.specs.List.{AllByRecursion}
use Rattle.std.specs.Option.{option_map}
use Rattle.relay_hub.specs.State.{State}
use Rattle.relay_store.specs.Kept.{begun, committed}
use Rattle.relay_store.specs.Texts.{owned}
use Rattle.relay_keeping.specs.Begun.{AreBegun, IsBare}
use Rattle.relay_keeping.specs.Noted.{noted_room}
use Rattle.relay_keeping.proofs.AllBegun.{none_begun}
use Rattle.relay_keeping.proofs.Keeping.{names_once}
use Rattle.relay_keeping.proofs.Mirrored.{mirrors, notes}
use Rattle.relay_keeping.proofs.Trailing.{trails_again}
use Rattle.relay_keeping.proofs.recovery.begin_hub.Given.{Over}
use Rattle.relay_keeping.proofs.recovery.begin_hub.Goals as goal

-- the rooms of all clients have begun
all_begun : (K : Over) (c : goal.After-drop-clients-5 K)
    → AreBegun c.in_ok-clients.clients.rooms.entries c.begin_rooms.new.hub
all_begun K c =
    let clients = c.in_ok-clients.clients in
    let empty = sym c.in-Ok.ensures.empty in
    let few : length clients.rooms.entries ≤ c.args.config.rooms =
    omega (arith, c.len.ensures.len, c.if-len-config.false) in
    let fits =
    subst (λ (hub : State). length clients.rooms.entries ≤ hub.config.rooms) empty few in
    let none = subst (AreBegun []) empty (none_begun c.args.config) in
    c.in_ok-begin_rooms.ensures.begun none fits

pub returns-clause-mirrors : goal.returns-clause-mirrors
returns-clause-mirrors K c = λ epoch.
    let kept = committed (begun epoch) (map owned c.args.changes.now.items) in
    mirrors kept c.in_ok-clients.clients c.begin_rooms.new.hub c.raise_floor.new.hub
    (c.in_ok-clients.ensures epoch) (all_begun K c) c.raise_floor.ensures.raised

pub returns-clause-bare : goal.returns-clause-bare
returns-clause-bare K c =
    subst (λ (hub : State). AllByRecursion IsBare hub.rooms) (sym c.raise_floor.ensures.raised)
    (all_begun K c).bare

pub returns-clause-behind : goal.returns-clause-behind
returns-clause-behind K c = λ epoch is b E stands.
    let kept = committed (begun epoch) (map owned c.args.changes.now.items) in
    let clients = c.in_ok-clients.clients in
    let hub = c.raise_floor.new.hub in
    let rooms = c.in_ok-rooms.rooms in
    let are = c.in_ok-clients.ensures epoch in
    let same = ap (λ (hub : State). hub.rooms) c.raise_floor.ensures.raised in
    let taken = c.in_ok-rooms.ensures (names_once b E hub stands) in
    let trails = trails_again b E hub kept (map (option_map noted_room) rooms.items) clients.floor
    stands (returns-clause-mirrors K c epoch)
    (notes kept clients c.begin_rooms.new.hub hub rooms b E are (all_begun K c) same taken stands)
    are.floor in
    rw (c.of-2.ensures, c.new-2.ensures.rooms, c.new-2.ensures.floor, is) trails

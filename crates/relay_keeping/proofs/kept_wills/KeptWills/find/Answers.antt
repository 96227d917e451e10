use Rattle.std.proofs.Common.{map}
use Rattle.std.specs.List.{flat_map}
use Rattle.relay_hub.specs.Stands.{named_will}
use Rattle.relay_keeping.specs.Wills.{wills_in, wills_of}
use Rattle.relay_keeping.proofs.FindingWills.{finds_then, found_all}
use Rattle.relay_keeping.proofs.kept_wills.KeptWills.find.Goals as goal

pub returns-clause-found : goal.returns-clause-found
returns-clause-found c =
    let hub = c.args.hub.now in
    let noted = c.args.self.now.noted.entries in
    let waiting = map (named_will hub.rooms) hub.wills in
    let opened = flat_map wills_in hub.rooms in
    let found = c.find_open.new.self in
    let all = found_all noted (wills_of hub) _ found c.clear.ensures.empty c.new-2.ensures.items
    (finds_then noted waiting opened _ c.find_waiting.new.self found c.in_ok-find_waiting.ensures
    c.in_ok-find_open.ensures) in
    c.with_drops.ensures (wills_of hub) all.0 all.1

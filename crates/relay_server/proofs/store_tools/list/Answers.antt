use Rattle.std.proofs.Common.{◌≡◌, flat_map, rules, string_bytes}
use Rattle.relay_server.specs.StoreTools.{listed_line}
use Rattle.relay_server.proofs.store_tools.list.Goals as goal

pub returns-clause-told : goal.returns-clause-told
returns-clause-told g c =
    let listing = c.in_ok-kept.kept.listing in
    let kept = c.in_ok-kept.ensures in
    let lines : string_bytes c.in_ok-listed_lines.field-0
    ≡ flat_map listed_line listing.rooms.items = search rules in
    (kept.0, record { listing = listing; lists = kept.2; tells = lines })

use Rattle.std.proofs.Common.{◌≡◌, ◌++◌, flat_map, rules, string_bytes, subst}
use Rattle.relay_server.specs.StoreTools.{exported_line, first_line}
use Rattle.relay_server.proofs.store_tools.export.Goals as goal

pub returns-clause-told : goal.returns-clause-told
returns-clause-told g c =
    let text = string_bytes c.in_ok-exported_lines.field-0 in
    let listing = c.in_ok-kept.kept.listing in
    let kept = c.in_ok-kept.ensures in
    let lines : text ≡ first_line c.in_ok-kept.kept.epoch listing.floor
    ++ flat_map exported_line listing.rooms.items = search rules in
    let told = subst (λ epoch. text ≡ first_line epoch listing.floor
    ++ flat_map exported_line listing.rooms.items) kept.1 lines in
    (kept.0, record { listing = listing; lists = kept.2; tells = told })

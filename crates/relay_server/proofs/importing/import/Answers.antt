use Rattle.std.proofs.Common.{◌≡◌, codes, length, map, rules, string_bytes, subst}
use Rattle.relay_store.specs.Kept.{begun, committed}
use Rattle.relay_store.specs.Texts.{owned}
use Rattle.relay_server.specs.Exports.{IsReadFrom}
use Rattle.relay_server.specs.Printed.{line_of}
use Rattle.relay_server.proofs.Exports.{exported}
use Rattle.relay_server.proofs.importing.import.Goals as goal

pub returns-clause-told : goal.returns-clause-told
returns-clause-told g c =
    let export = c.in_ok-export.export in
    let listing = c.in_ok-listing.listing in
    let text : string_bytes c.in_ok-format.field-0
    ≡ line_of (codes "rooms") (length listing.rooms.items) = search rules in
    let read = subst (λ bytes. IsReadFrom bytes export) c.as_str.ensures.value
    c.in_ok-export.ensures.read in (
      committed (begun export.epoch) (map owned export.changes.items),
      exported (g.R.Read.remaining c.args.reader.now) (string_bytes c.in_ok-text.text) export
          c.in_ok-text.ensures.text read,
      record { listing = listing; lists = c.in_ok-listing.ensures.lists; tells = text },
    )

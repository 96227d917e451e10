use Rattle.std.proofs.Common.{◌∙◌, ap, option_copied, sym}
use Rattle.relay_keeping.specs.Listing.{named_in}
use Rattle.relay_server.proofs.store_tools.show.Goals as goal

pub returns-in-Some-clause-told : goal.returns-in-Some-clause-told
returns-in-Some-clause-told g c room same =
    let listing = c.in_ok-kept.kept.listing in
    let kept = c.in_ok-kept.ensures in
    let named = ap (λ name. named_in name listing.rooms.items) same ∙ sym c.room.ensures
    ∙ ap option_copied c.in-Some.is in (
      kept.0,
      record {
        listing = listing;
        lists = kept.2;
        tells = (c.in-Some.room.now, named, c.in_ok-document_line-in-Some.ensures);
      },
    )

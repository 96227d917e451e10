use Rattle.std.proofs.Common.{refl}
use Rattle.relay_keeping.proofs.Listed.{lists}
use Rattle.relay_keeping.proofs.listing.Listing.of.Goals as goal

pub returns : goal.returns
returns c epoch =
    let sorted = c.sort_unstable_keys in
    lists _ c.in_ok-clients.clients sorted.new.self.entries _ (c.in_ok-clients.ensures epoch)
    sorted.ensures.reordered.2 c.in_ok-sort_unstable_keys.ensures.sorted sorted.ensures.unique
    c.in_ok-listed_all.ensures refl

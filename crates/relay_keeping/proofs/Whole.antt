-- The view of a whole document: a list of one slot, which is a list of one part.
use Rattle.std.proofs.Common.{◌≡◌, Option, Some, None, IfSome, ap}
use Rattle.std.specs.Borrow.{Bor}
use Rattle.std.specs.Option.{option_copied}
use Rattle.relay_tree.specs.Document.{Document, list, no_items, item}
use Rattle.relay_tree.specs.Part.{list_item, list_len}
use Rattle.relay_view.specs.View.{slot_of}

-- a list that has one element only
pub only_item : (d : Document) (only : Option (Bor Document)) → list_len d ≡ Some 1
    → option_copied only ≡ list_item d 0 → IfSome only (λ v. d ≡ slot_of (Some v.now))
only_item d None one at = _
only_item (list (item v no_items)) (Some only) one at =
    let same : v ≡ only.now = cc at in ap (λ v. list (item v no_items)) same
only_item (list (item v (item w vs))) (Some only) one at = absurd (cc one)
only_item (list no_items) (Some only) one at = absurd cc
only_item d (Some only) one at = absurd cc

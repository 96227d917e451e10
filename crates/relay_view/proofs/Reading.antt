-- A list within the limit is read element by element; one past it is refused unread.
use Rattle.std.proofs.Common.{◌≡◌, ◌<◌, ◌≤◌, List, length, true, false, nat_le, nat_lt, Err, refl}
use Rattle.std.proofs.Common.{arith}
use Rattle.std.proofs.lemmas.Bool.Decides.{nat_tests}
use Rattle.relay_tree.specs.Document.{Document, list, items_of}
use Rattle.relay_tree.specs.Each.{each_from}
use Rattle.relay_tree.proofs.Elements.{items_length-items_of}
use Rattle.relay_view.specs.Form.{slot_at, view_of, is_short_list}
use Rattle.relay_view.specs.declared.fault.ViewFault.TheVariants.{TooMany}
use Rattle.relay_view.specs.declared.view.TheConstants.{MAX_SLOTS}

pub few : (items : List Document) → length items ≤ MAX_SLOTS
    → view_of (list (items_of items)) ≡ each_from slot_at 0 (items_of items)
few items h = let test : nat_lt MAX_SLOTS (length items) ≡ false = grind (arith, nat_tests) in
    rw (items_length-items_of items, test) refl

pub many : (items : List Document) → MAX_SLOTS < length items
    → view_of (list (items_of items)) ≡ Err TooMany
many items h = let test : nat_lt MAX_SLOTS (length items) ≡ true = grind (arith, nat_tests) in
    rw (items_length-items_of items, test) refl

pub short : (items : List Document) → length items ≤ MAX_SLOTS
    → is_short_list (list (items_of items)) ≡ true
short items h = let test : nat_le (length items) MAX_SLOTS ≡ true = grind (arith, nat_tests) in
    rw (items_length-items_of items, test) refl

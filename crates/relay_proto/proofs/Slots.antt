-- The slots of a view, one by one.
use Rattle.std.proofs.Common.{◌≡◌, List, [], ◌∷◌, ◌&&◌, length, nat_le, refl, sym, ap}
use Rattle.std.specs.List.{list_all}
use Rattle.relay_tree.specs.Document.{Document, list, items_of}
use Rattle.relay_tree.proofs.Elements.{items_length-items_of}
use Rattle.relay_proto.specs.MessageRead.{is_slot, are_slots, is_view}

all_slots_of : (slots : List Document) → list_all is_slot slots ≡ are_slots (items_of slots)
all_slots_of [] = refl
all_slots_of (d ∷ ds) = ap (λ b. is_slot d && b) (all_slots_of ds)

pub all_slots : (slots : List Document) → list_all is_slot slots ≡ is_view (list (items_of slots))
all_slots slots = all_slots_of slots

pub few_values : (values : List Document)
    → nat_le (length values) 1 ≡ is_slot (list (items_of values))
few_values values = ap (λ n. nat_le n 1) (sym (items_length-items_of values))

-- The slots of a view, one by one.
use Rattle.std.proofs.Common.{◌≡◌, [], ◌∷◌, map, refl, ap}
use Rattle.relay_tree.specs.Document.{Document, item, items_of}
use Rattle.relay_view.specs.View.{View, slot, slots}

pub slots-map : (pointers : View) (d : Document)
    → items_of (map (λ s. slot s d) pointers) ≡ slots pointers d
slots-map [] d = refl
slots-map (s ∷ pointers) d = ap (item (slot s d)) (slots-map pointers d)

-- The first and the last token of a path.
use Rattle.std.proofs.Common.{◌≡◌, [], ◌∷◌, ◌++◌, refl, ap}
use Rattle.relay_pointer.specs.Index.{Token}
use Rattle.relay_pointer.specs.Path.{Path}
use Rattle.relay_tree.specs.Document.{Document}
use Rattle.relay_pointer.specs.Path.{at}
use Rattle.relay_patch.specs.Place.{parent, last, place_within, place_of}

pub parent_end : (u : Token) (before : Path) (t : Token) → parent u (before ++ t ∷ []) ≡ u ∷ before
parent_end u [] t = refl
parent_end u (x ∷ before) t = ap (λ p. u ∷ p) (parent_end x before t)

pub last_end : (u : Token) (before : Path) (t : Token) → last u (before ++ t ∷ []) ≡ t
last_end u [] t = refl
last_end u (x ∷ before) t = last_end x before t

pub place_of-end : (d : Document) (before : Path) (t : Token)
    → place_of d (before ++ t ∷ []) ≡ place_within (at d before) before t
place_of-end d [] t = refl
place_of-end d (u ∷ before) t = rw (parent_end u before t, last_end u before t) refl

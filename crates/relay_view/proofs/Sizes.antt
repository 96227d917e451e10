-- The number of members of an object is the number of entries of its map.
use Rattle.std.proofs.Common.{◌≡◌, suc, List, [], ◌∷◌, length, String, refl, ap}
use Rattle.std.specs.declared.alloc.Global.{Global}
use Rattle.relay_tree.specs.Document.{Document}
use Rattle.relay_tree.specs.Seen.{members_of}
use Rattle.relay_view.specs.View.{members_length}

pub members_length-members_of : (ms : List (String Global × Document))
    → members_length (members_of ms) ≡ length ms
members_length-members_of [] = refl
members_length-members_of (m ∷ ms) = ap suc (members_length-members_of ms)

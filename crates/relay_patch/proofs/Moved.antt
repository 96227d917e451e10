-- The effect of a move.
use Rattle.std.proofs.Common.{◌≡◌, ◌∷◌, false, Ok, Err, if◌then◌else◌}
use Rattle.relay_tree.specs.Document.{Document}
use Rattle.relay_pointer.specs.Index.{Token}
use Rattle.relay_pointer.specs.Path.{Path, is_proper_prefix, same_path}
use Rattle.relay_patch.specs.Walk.{IntoItself, walk}
use Rattle.relay_patch.specs.Place.{place_of}
use Rattle.relay_patch.specs.Patch.{below, drop_child, added, moved, effect, Move}
use Rattle.relay_patch.proofs.Refusals.{then_ok, not_refused}

-- the effect of a move that passes
pub record DidMove (f : Token) (from : Path) (path : Path) (c c' : Document) : Type 0 where
  pub value : Document
  pub between : Document
  pub there : walk c (f ∷ from) ≡ Ok value
  pub outside : is_proper_prefix (f ∷ from) path ≡ false
  pub went : below drop_child f from c ≡ Ok between
  pub came : (if same_path (f ∷ from) (place_of between path).path then Ok c
      else added path value between) ≡ Ok c'

pub did_move : (f : Token) (from path : Path) (c c' : Document)
    → effect c (Move (f ∷ from) path) ≡ Ok c' → DidMove f from path c c'
did_move f from path c c' h =
    let s = then_ok (walk c (f ∷ from))
    (λ v. if is_proper_prefix (f ∷ from) path then Err IntoItself
    else moved (f ∷ from) path v c) c' h in
    let n = not_refused (is_proper_prefix (f ∷ from) path) IntoItself
    (moved (f ∷ from) path s.0 c) c' s.2 in
    let m = then_ok (below drop_child f from c)
    (λ e. if same_path (f ∷ from) (place_of e path).path then Ok c else added path s.0 e) c'
    n.1 in
    record { value = s.0; between = m.0; there = s.1; outside = n.0; went = m.1; came = m.2 }

pub from_moved : (f : Token) (from path : Path) (c c' : Document) → DidMove f from path c c'
    → effect c (Move (f ∷ from) path) ≡ Ok c'
from_moved f from path c c' m = rw (m.there, m.outside, m.went) m.came

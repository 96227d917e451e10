-- The container in which an act at a path takes place.
use Rattle.std.proofs.Common.{◌≡◌, [], ◌∷◌, ◌++◌, Bool, true, false, Option, Some, None, Ok, refl}
use Rattle.std.proofs.Common.{sym, ap, ◌∙◌}
use Rattle.relay_tree.specs.Document.{Document, list}
use Rattle.relay_pointer.specs.Index.{Token, index_of}
use Rattle.relay_pointer.specs.Path.{Path, with_child, at, same_path}
use Rattle.relay_patch.specs.Walk.{step, walk}
use Rattle.relay_patch.specs.Place.{parent, last, front, last_of, beside, place_within, place_of}
use Rattle.relay_patch.specs.Patch.{Act, below, at_path}
use Rattle.relay_patch.specs.Change.{placed}
use Rattle.relay_patch.proofs.Parts.{at_index, no_dash}
use Rattle.relay_patch.proofs.Inside.{was_inside, step-was_inside}
use Rattle.relay_patch.proofs.Walks.{at_reached, child_reached}

pub parent-last : (t : Token) (path : Path) → parent t path ++ last t path ∷ [] ≡ t ∷ path
parent-last t [] = refl
parent-last t (u ∷ path) = ap (λ p. t ∷ p) (parent-last u path)

-- the tokens of a path before its last one, and the last one

parent-append : (u : Token) (before : Path) (t : Token) → parent u (before ++ t ∷ []) ≡ u ∷ before
parent-append u [] t = refl
parent-append u (w ∷ before) t = ap (λ p. u ∷ p) (parent-append w before t)

last-append : (u : Token) (before : Path) (t : Token) → last u (before ++ t ∷ []) ≡ t
last-append u [] t = refl
last-append u (w ∷ before) t = last-append w before t

pub front-append : (before : Path) (t : Token) → front (before ++ t ∷ []) ≡ before
front-append [] t = refl
front-append (u ∷ before) t = parent-append u before t

pub last_of-append : (before : Path) (t : Token) → last_of (before ++ t ∷ []) ≡ t
last_of-append [] t = refl
last_of-append (u ∷ before) t = last-append u before t

pub beside-append : (before parent : Path) (t u : Token)
    → beside (before ++ t ∷ []) (parent ++ u ∷ []) ≡ same_path before parent
beside-append [] [] t u = refl
beside-append [] (y ∷ parent) t u = rw (parent-append y parent u) refl
beside-append (x ∷ before) [] t u = rw (parent-append x before t) refl
beside-append (x ∷ before) (y ∷ parent) t u =
    rw (parent-append x before t, parent-append y parent u) refl

-- the container in which an act below some tokens took place; another act with the same result
-- there has the same result as a whole
pub record Site (act : Act) (t : Token) (path : Path) (d d' : Document) : Type 0 where
  pub container : Document
  pub later : Document
  pub there : walk d (parent t path) ≡ Ok container
  pub stands : walk d' (parent t path) ≡ Ok later
  pub acted : act (last t path) container ≡ Ok later
  pub alike : (other : Act) (u : Token) → other u container ≡ Ok later
      → at_path other (parent t path ++ u ∷ []) d ≡ Ok d'

pub site : (act : Act) (t : Token) (path : Path) (d d' : Document) → below act t path d ≡ Ok d'
    → Site act t path d d'
site act t [] d d' h =
    record {
      container = d;
      later = d';
      there = refl;
      stands = refl;
      acted = h;
      alike = λ other u k. k;
    }
site act t (u ∷ path) d d' h =
    let w = was_inside (below act u path) t d d' h in
    let s = site act u path w.before w.later w.changed in
    record {
      container = s.container;
      later = s.later;
      there = rw w.stood s.there;
      stands = rw (step-was_inside (below act u path) t d d' w) s.stands;
      acted = s.acted;
      alike = λ other x k. deeper_act other t
          (parent u path ++ x ∷ []) w.before w.later d d' w.stood w.whole (s.alike other x k);
    }
  where
    deeper_act : (other : Act) (t : Token) (p : Path) (c c' d d' : Document) → step d t ≡ Ok c
        → d' ≡ with_child d t c' → at_path other p c ≡ Ok c' → at_path other (t ∷ p) d ≡ Ok d'
    deeper_act other t [] c c' d d' stood made k = cc
    deeper_act other t (x ∷ p) c c' d d' stood made k = rw (stood, k) (ap Ok (sym made))

place_within-plain : (is_item : Bool) (act : Act) (before : Path) (t : Token) (c c' : Document)
    → placed is_item act t c ≡ Ok c' → (place_within (Some c) before t).path ≡ before ++ t ∷ []
place_within-plain true act before t (list ds) c' h =
    let a = at_index act t (list ds) c' (index_of t) h in rw (no_dash t a.0 a.1) refl
place_within-plain false act before t (list ds) c' h = cc
place_within-plain _ act before t _ c' h = refl

-- an act in a list at an index, or in an object, is at a canonical path
pub place_of-plain : (is_item : Bool) (act : Act) (t : Token) (path : Path) (d d' : Document)
    → below (placed is_item act) t path d ≡ Ok d' → (place_of d (t ∷ path)).path ≡ t ∷ path
place_of-plain is_item act t path d d' h =
    let s = site (placed is_item act) t path d d' h in
    rw (at_reached (parent t path) d s.container s.there)
    (place_within-plain is_item act (parent t path) (last t path) s.container s.later s.acted)
    ∙ parent-last t path

place_within-below : (o : Option Document) (t : Token) (before : Path) (u : Token)
    → (place_within o (t ∷ before) u).path ≡ t ∷ (place_within o before u).path
place_within-below None t before u = refl
place_within-below (Some (list ds)) t before u = refl
place_within-below _ t before u = refl

-- the place below a child
pub place_of-below : (d c : Document) (t u : Token) (path : Path) → step d t ≡ Ok c
    → (place_of d (t ∷ u ∷ path)).path ≡ t ∷ (place_of c (u ∷ path)).path
place_of-below d c t u path h =
    rw (child_reached d t c h)
    (place_within-below (at c (parent u path)) t (parent u path) (last u path))

-- A value put at a place that has a member.
use Rattle.std.proofs.Common.{◌≡◌, [], ◌∷◌, Bool, true, false, Option, Some, None, Ok, IsOk, refl}
use Rattle.std.proofs.Common.{sym, subst, ◌∙◌, if◌then◌else◌, is_some}
use Rattle.relay_tree.specs.Document.{Document, object}
use Rattle.relay_tree.specs.Part.{set_member}
use Rattle.relay_pointer.specs.Index.{Token}
use Rattle.relay_pointer.specs.Path.{Path, at}
use Rattle.relay_patch.specs.Walk.{step, walk}
use Rattle.relay_patch.specs.Place.{last}
use Rattle.relay_patch.specs.declared.change.Place.{Place}
use Rattle.relay_patch.specs.Patch.{at_path, insert_child, set_child, added, replaced}
use Rattle.relay_patch.specs.Change.{in_object, inserted, inserted_at}
use Rattle.relay_patch.specs.Measure.{displaced}
use Rattle.relay_patch.proofs.Carried.{inserts_plainly}
use Rattle.relay_patch.proofs.Made.{at_last}
use Rattle.relay_patch.proofs.Refusals.{ok_or_some}
use Rattle.relay_patch.proofs.Sites.{site, parent-last}
use Rattle.relay_patch.proofs.Walks.{was_found, at_reached}
use Rattle.relay_patch.proofs.Exchanges.{replaced_needs}
use Rattle.relay_tree.proofs.Outcomes.{some_ok, is_ok_then}

-- putting a member that exists sets it
put_sets : (v : Document) (t : Token) (c c' w : Document) → in_object (insert_child v) t c ≡ Ok c'
    → step c t ≡ Ok w → set_child v t c ≡ Ok c'
put_sets v t (object ms) c' w h there =
    let found = ok_or_some _ _ _ there in
    let set : Ok (object (set_member ms t v)) ≡ Ok c' = rw found at h in
    rw found set
put_sets v t _ c' w h there = cc

pub sets : (place : Place) (v d e w : Document) → displaced place d ≡ Some w
    → inserted place v d ≡ Ok e → replaced place.path v d ≡ Ok e
sets place v d e w = go place.item place.path
  where
    go : (b : Bool) (path : Path) → (if b then None else at d path) ≡ Some w
        → inserted_at b path v d ≡ Ok e → replaced path v d ≡ Ok e
    go true path found h = cc
    go false [] found h = h
    go false (t ∷ path) found h =
        let s = site (in_object (insert_child v)) t path d e h in
        let there = was_found _ w (sym (at_last d s.container t path s.there) ∙ found) in
        subst (λ p. at_path (set_child v) p d
        ≡ Ok e) (parent-last t path)
        (s.alike (set_child v) (last t path)
        (put_sets v (last t path) s.container s.later w s.acted there))

taken : (o : Option Document) → is_some o ≡ true → (w : Document) × (o ≡ Some w)
taken (Some w) h = (w, refl)
taken None h = cc

pub taken_there : (place : Place) (v d : Document) → is_some (displaced place d) ≡ true
    → IsOk (inserted place v d) → IsOk (walk d place.path)
taken_there place v d is h =
    let w = taken _ is in
    let e = some_ok _ h in
    replaced_needs place.path v d (is_ok_then _ e.0 (sets place v d e.0 w.0 w.1 e.1))

pub taken_put : (place : Place) (v d n : Document) → is_some (displaced place d) ≡ true
    → IsOk (inserted place v d) → replaced place.path v d ≡ Ok n → added place.path v d ≡ Ok n
taken_put place v d n is h new =
    let w = taken _ is in
    let e = some_ok _ h in
    inserts_plainly place.item place.path v d e.0 e.1 ∙ (sym (sets place v d e.0 w.0 w.1 e.1) ∙ new)

-- the value that was there
pub taken_is : (place : Place) (d w : Document) → is_some (displaced place d) ≡ true
    → walk d place.path ≡ Ok w → Some w ≡ displaced place d
taken_is place d w is there = go place.item is
  where
    go : (b : Bool) → is_some (if b then None else at d place.path) ≡ true
        → Some w ≡ (if b then None else at d place.path)
    go true k = cc
    go false k = sym (at_reached place.path d w there)

pub put_plainly : (place : Place) (v d : Document) → IsOk (inserted place v d)
    → IsOk (added place.path v d)
put_plainly place v d h =
    let e = some_ok _ h in is_ok_then _ e.0 (inserts_plainly place.item place.path v d e.0 e.1)

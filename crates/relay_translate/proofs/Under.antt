-- An operation on an element of a list, with the element's index in front of its paths.
use Rattle.std.proofs.Common.{◌≡◌, ℕ, suc, [], ◌∷◌, Bool, true, false, Some, Ok, refl, ap, subst}
use Rattle.std.proofs.Common.{if◌then◌else◌}
use Rattle.std.specs.Bool.{⊤}
use Rattle.relay_tree.specs.Document.{Document, list, Items, item}
use Rattle.relay_tree.specs.Part.{item_at, put_item}
use Rattle.relay_tree.proofs.Names.{bytes_same}
use Rattle.relay_tree.proofs.Elements.{item_at-put_same, put_item-same}
use Rattle.relay_pointer.specs.Index.{Token, index_of}
use Rattle.relay_pointer.specs.Path.{Path, same_path}
use Rattle.relay_patch.specs.Walk.{step, walk}
use Rattle.relay_patch.specs.Place.{place_of}
use Rattle.relay_patch.specs.declared.op.Op.{Op}
use Rattle.relay_patch.specs.declared.op.Op.TheVariants.{Add, Remove, Replace, Move, Copy, Test}
use Rattle.relay_patch.specs.Patch.{Act, below, drop_child, insert_child, set_child, added, effect}
use Rattle.relay_patch.proofs.Refusals.{then_ok}
use Rattle.relay_patch.proofs.Sites.{place_of-below}
use Rattle.relay_patch.proofs.Moved.{DidMove, did_move, from_moved}
use Rattle.relay_translate.specs.Translate.{with_paths}

abbrev pub Longer : Path → Type 0
Longer [] = ⊥
Longer (u ∷ path) = ⊤

-- no path at which it changes something is the root
abbrev pub IsDeep : Op → Type 0
IsDeep (Add path v) = Longer path
IsDeep (Remove path) = Longer path
IsDeep (Replace path v) = Longer path
IsDeep (Move from path) = Longer from × Longer path
IsDeep (Copy from path) = Longer path
IsDeep (Test path v) = ⊥

pub put_item-twice : (ds : Items) (i : ℕ) (a b : Document)
    → put_item (put_item ds i a) i b ≡ put_item ds i b
put_item-twice (item d ds) (suc i) a b = ap (item d) (put_item-twice ds i a b)
put_item-twice _ _ a b = refl

-- the token names an element of the list, which is c
pub record IsElement (ds : Items) (t : Token) (i : ℕ) (c : Document) : Type 0 where
  pub index : index_of t ≡ Some i
  pub there : item_at ds i ≡ Some c

child_of : (ds : Items) (t : Token) (i : ℕ) (c : Document) → IsElement ds t i c
    → step (list ds) t ≡ Ok c
child_of ds t i c e = rw (e.index, e.there) refl

below_under : (act : Act) (ds : Items) (t : Token) (i : ℕ) (c c' : Document) (u : Token) (r : Path)
    → IsElement ds t i c → below act u r c ≡ Ok c'
    → below act t (u ∷ r) (list ds) ≡ Ok (list (put_item ds i c'))
below_under act ds t i c c' u r e h = rw (child_of ds t i c e, h, e.index) refl

still_element : (ds : Items) (t : Token) (i : ℕ) (c c' : Document) → IsElement ds t i c
    → IsElement (put_item ds i c') t i c'
still_element ds t i c c' e = record { index = e.index; there = item_at-put_same ds i c c' e.there }

came_under : (f : Token) (from : Path) (u : Token) (r : Path) (ds : Items) (t : Token) (i : ℕ)
    (c c' v b : Document) → IsElement ds t i c
    → (if same_path (f ∷ from) (place_of b (u ∷ r)).path then Ok c else added (u ∷ r) v b) ≡ Ok c'
    → (if same_path (t ∷ f ∷ from) (place_of (list (put_item ds i b)) (t ∷ u ∷ r)).path
    then Ok (list ds) else added (t ∷ u ∷ r) v (list (put_item ds i b)))
    ≡ Ok (list (put_item ds i c'))
came_under f from u r ds t i c c' v b e h =
    rw (
      place_of-below (list (put_item ds i b)) b t u r (child_of (put_item ds i b) t i b later),
      bytes_same t,
    ) (go (same_path (f ∷ from) (place_of b (u ∷ r)).path) h)
  where
    later : IsElement (put_item ds i b) t i b
    later = still_element ds t i c b e

    go : (x : Bool) → (if x then Ok c else added (u ∷ r) v b) ≡ Ok c'
        → (if x then Ok (list ds) else added (t ∷ u ∷ r) v (list (put_item ds i b)))
        ≡ Ok (list (put_item ds i c'))
    go true k = let same : c' ≡ c = cc in rw (same, put_item-same ds i c e.there) refl
    go false k =
        subst (λ xs. below (insert_child v) t (u ∷ r) (list (put_item ds i b)) ≡ Ok (list xs))
        (put_item-twice ds i b c')
        (below_under (insert_child v) (put_item ds i b) t i b c' u r later k)

move_under : (f : Token) (from : Path) (u : Token) (r : Path) (ds : Items) (t : Token) (i : ℕ)
    (c c' : Document) → IsElement ds t i c → DidMove f from (u ∷ r) c c'
    → DidMove t (f ∷ from) (t ∷ u ∷ r) (list ds) (list (put_item ds i c'))
move_under f from u r ds t i c c' e m =
    record {
      value = m.value;
      between = list (put_item ds i m.between);
      there = rw (child_of ds t i c e) m.there;
      outside = rw (bytes_same t) m.outside;
      went = below_under drop_child ds t i c m.between f from e m.went;
      came = came_under f from u r ds t i c c' m.value m.between e m.came;
    }

pub effect_under : (op : Op) (ds : Items) (t : Token) (i : ℕ) (c c' : Document) → IsElement ds t i c
    → IsDeep op → effect c op ≡ Ok c'
    → effect (list ds) (with_paths (λ p. t ∷ p) op) ≡ Ok (list (put_item ds i c'))
effect_under (Add (u ∷ r) v) ds t i c c' e deep h = below_under (insert_child v) ds t i c c' u r e h
effect_under (Remove (u ∷ r)) ds t i c c' e deep h = below_under drop_child ds t i c c' u r e h
effect_under (Replace (u ∷ r) v) ds t i c c' e deep h =
    below_under (set_child v) ds t i c c' u r e h
effect_under (Move [] path) ds t i c c' e deep h = absurd deep.0
effect_under (Move (f ∷ from) []) ds t i c c' e deep h = absurd deep.1
effect_under (Move (f ∷ from) (u ∷ r)) ds t i c c' e deep h =
    from_moved t (f ∷ from) (t ∷ u ∷ r) (list ds) _
    (move_under f from u r ds t i c c' e (did_move f from (u ∷ r) c c' h))
effect_under (Copy from (u ∷ r)) ds t i c c' e deep h =
    let s = then_ok (walk c from) (λ v. added (u ∷ r) v c) c' h in
    let found : walk (list ds) (t ∷ from) ≡ Ok s.0 = rw (child_of ds t i c e) s.1 in
    rw found (below_under (insert_child s.0) ds t i c c' u r e s.2)
effect_under _ ds t i c c' e deep h = absurd deep

pub with_paths-twice : (f g : Path → Path) (op : Op)
    → with_paths f (with_paths g op) ≡ with_paths (λ p. f (g p)) op
with_paths-twice f g (Add path v) = refl
with_paths-twice f g _ = refl

pub deeper : (t : Token) (op : Op) → IsDeep op → IsDeep (with_paths (λ p. t ∷ p) op)
deeper t (Move from path) h = (tt, tt)
deeper t (Test path v) h = absurd h
deeper t _ h = tt

-- A value that was put at a path is there; of two values put at one place the last wins; putting
-- the old value back restores the document.
use Rattle.std.proofs.Common.{◌≡◌, ℕ, suc, [], ◌∷◌, Option, Some, None, refl, sym, ap, ◌∙◌, max}
use Rattle.std.proofs.Common.{◌≤◌, arith}
use Rattle.relay_tree.specs.Document.{Document, list, object, Items, depth, items_depth}
use Rattle.relay_tree.specs.Part.{item_at, items_length}
use Rattle.relay_tree.proofs.Elements.{item_at-put_same, put_item-twice, put_item-length}
use Rattle.relay_tree.proofs.Named.{member_at-set_same, set_member-twice}
use Rattle.relay_pointer.specs.Index.{Token, index_of}
use Rattle.relay_pointer.specs.Path.{Path, child, put_element, with_child, at, put}
use Rattle.relay_pointer.proofs.Walks.{with_child-same}
use Rattle.relay_tree.proofs.Sizes.{put_item-depth, set_member-depth}

-- Elements and members.

put_element-twice : (ds : Items) (o : Option ℕ) (a b : Document)
    → put_element (put_element ds o a) o b ≡ put_element ds o b
put_element-twice ds None a b = refl
put_element-twice ds (Some i) a b = put_item-twice ds i a b

-- Children.
pub with_child-twice : (d : Document) (t : Token) (a b : Document)
    → with_child (with_child d t a) t b ≡ with_child d t b
with_child-twice (list ds) t a b = ap list (put_element-twice ds (index_of t) a b)
with_child-twice (object ms) t a b = ap object (set_member-twice ms t a b)
with_child-twice _ t a b = refl

pub child-with_child : (d : Document) (t : Token) (c a : Document) → child d t ≡ Some c
    → child (with_child d t a) t ≡ Some a
child-with_child (list ds) t c a h = go (index_of t) refl
  where
    go : (o : Option ℕ) → index_of t ≡ o → child (list (put_element ds (index_of t) a)) t ≡ Some a
    go None e = let k : None ≡ Some c = rw e at h in cc
    go (Some i) e = let k : item_at ds i ≡ Some c = rw e at h in rw e (item_at-put_same ds i c a k)
child-with_child (object ms) t c a h = member_at-set_same ms t c a h
child-with_child _ t c a h = cc

-- Paths.

-- the value at a path, reached through the path's first token
record Through (d : Document) (t : Token) (path : Path) (old : Document) : Type 0 where
  part : Document
  first : child d t ≡ Some part
  rest : at part path ≡ Some old

through : (d : Document) (t : Token) (path : Path) (old : Document) → at d (t ∷ path) ≡ Some old
    → Through d t path old
through d t path old h = go (child d t) refl
  where
    go : (o : Option Document) → child d t ≡ o → Through d t path old
    go None e = let k : None ≡ Some old = rw e at h in cc
    go (Some c) e = record { part = c; first = e; rest = rw e at h }

pub at-put : (d : Document) (path : Path) (old v : Document) → at d path ≡ Some old
    → at (put d path v) path ≡ Some v
at-put d [] old v h = refl
at-put d (t ∷ path) old v h =
    let s = through d t path old h in
    rw (s.first, child-with_child d t s.part (put s.part path v) s.first)
    (at-put s.part path old v s.rest)

pub put-twice : (d : Document) (path : Path) (old v w : Document) → at d path ≡ Some old
    → put (put d path v) path w ≡ put d path w
put-twice d [] old v w h = refl
put-twice d (t ∷ path) old v w h =
    let s = through d t path old h in
    let below = put-twice s.part path old v w s.rest in
    rw (s.first, child-with_child d t s.part (put s.part path v) s.first, below)
    (with_child-twice d t (put s.part path v) (put s.part path w))

pub put-same : (d : Document) (path : Path) (old : Document) → at d path ≡ Some old
    → put d path old ≡ d
put-same d [] old h = let e : d ≡ old = cc in sym e
put-same d (t ∷ path) old h =
    let s = through d t path old h in
    rw (s.first, put-same s.part path old s.rest) (with_child-same d t s.part s.first)

pub put-back : (d : Document) (path : Path) (old v : Document) → at d path ≡ Some old
    → put (put d path v) path old ≡ d
put-back d path old v h = put-twice d path old v old h ∙ put-same d path old h

-- Depths.

put_element-depth : (ds : Items) (o : Option ℕ) (e : Document)
    → items_depth (put_element ds o e) ≤ max (items_depth ds) (depth e)
put_element-depth ds None e = omega arith
put_element-depth ds (Some i) e = put_item-depth ds i e

pub with_child-depth : (d : Document) (t : Token) (e : Document)
    → depth (with_child d t e) ≤ max (depth d) (suc (depth e))
with_child-depth (list ds) t e = let w = put_element-depth ds (index_of t) e in omega (arith, w)
with_child-depth (object ms) t e = let w = set_member-depth ms t e in omega (arith, w)
with_child-depth _ t e = omega arith

pub put_element-length : (ds : Items) (o : Option ℕ) (e : Document)
    → items_length (put_element ds o e) ≡ items_length ds
put_element-length ds None e = refl
put_element-length ds (Some i) e = put_item-length ds i e

-- if the path leads to nothing, nothing is put
pub put-missing : (d : Document) (path : Path) (v : Document) → at d path ≡ None → put d path v ≡ d
put-missing d [] v h = cc
put-missing d (t ∷ path) v h = go (child d t) refl (λ c k. put-missing c path v k)
  where
    go : (o : Option Document) → child d t ≡ o
        → ((c : Document) → at c path ≡ None → put c path v ≡ c) → put d (t ∷ path) v ≡ d
    go None e below = rw e refl
    go (Some c) e below =
        let k : at c path ≡ None = rw e at h in
        rw (e, below c k) (with_child-same d t c e)

-- The elements of a list's queue compared with the items that they represent, and items after a
-- change.
use Rattle.std.proofs.Common.{◌≡◌, ◌≢◌, ℕ, zero, suc, ◌<◌, ◌≤◌, List, [], ◌∷◌, length, Option, Some}
use Rattle.std.proofs.Common.{None, option_map, refl, sym, ap, arith, slice_get, slice_set}
use Rattle.std.specs.List.{insert, remove}
use Rattle.relay_tree.specs.Document.{Document, Items, no_items, item, items_of}
use Rattle.relay_tree.specs.Part.{items_length, item_at, put_item, insert_item, drop_item}

-- A queue.

pub items_length-items_of : (xs : List Document) → items_length (items_of xs) ≡ length xs
items_length-items_of [] = refl
items_length-items_of (x ∷ xs) = ap suc (items_length-items_of xs)

pub slice_get-items_of : (xs : List Document) (i : ℕ) → slice_get xs i ≡ item_at (items_of xs) i
slice_get-items_of (x ∷ xs) (suc i) = slice_get-items_of xs i
slice_get-items_of _ _ = refl

pub items_of-slice_set : (xs : List Document) (i : ℕ) (e : Document)
    → items_of (slice_set xs i e) ≡ put_item (items_of xs) i e
items_of-slice_set (x ∷ xs) (suc i) e = ap (item x) (items_of-slice_set xs i e)
items_of-slice_set _ _ e = refl

pub insert_item-items_of : (xs : List Document) (i : ℕ) (v : Document) → i ≤ length xs
    → insert_item (items_of xs) i v ≡ Some (items_of (insert xs i v))
insert_item-items_of xs zero v h = refl
insert_item-items_of [] (suc i) v h = absurd (omega arith)
insert_item-items_of (x ∷ xs) (suc i) v h =
    ap (option_map (item x)) (insert_item-items_of xs i v (omega arith))

pub insert_item-past : (xs : List Document) (i : ℕ) (v : Document) → length xs < i
    → insert_item (items_of xs) i v ≡ None
insert_item-past xs zero v h = absurd (omega arith)
insert_item-past [] (suc i) v h = refl
insert_item-past (x ∷ xs) (suc i) v h =
    ap (option_map (item x)) (insert_item-past xs i v (omega arith))

pub drop_item-items_of : (xs : List Document) (i : ℕ) → i < length xs
    → drop_item (items_of xs) i ≡ Some (items_of (remove xs i))
drop_item-items_of [] i h = absurd (omega arith)
drop_item-items_of (x ∷ xs) zero h = refl
drop_item-items_of (x ∷ xs) (suc i) h =
    ap (option_map (item x)) (drop_item-items_of xs i (omega arith))

-- Past the end.

pub item_at-past : (ds : Items) (i : ℕ) → items_length ds ≤ i → item_at ds i ≡ None
item_at-past no_items i h = refl
item_at-past (item d ds) zero h = absurd (omega arith)
item_at-past (item d ds) (suc i) h = item_at-past ds i (omega arith)

pub put_item-past : (ds : Items) (i : ℕ) (e : Document) → items_length ds ≤ i → put_item ds i e ≡ ds
put_item-past no_items i e h = refl
put_item-past (item d ds) zero e h = absurd (omega arith)
put_item-past (item d ds) (suc i) e h = ap (item d) (put_item-past ds i e (omega arith))

-- After a change.

-- putting an element where it already is changes nothing
pub put_item-same : (ds : Items) (i : ℕ) (e : Document) → item_at ds i ≡ Some e
    → put_item ds i e ≡ ds
put_item-same no_items i e h = refl
put_item-same (item d ds) zero e h = let same : d ≡ e = cc in ap (λ x. item x ds) (cc)
put_item-same (item d ds) (suc i) e h = ap (item d) (put_item-same ds i e h)

pub item_at-put_same : (ds : Items) (i : ℕ) (c e : Document) → item_at ds i ≡ Some c
    → item_at (put_item ds i e) i ≡ Some e
item_at-put_same no_items i c e h = cc
item_at-put_same (item d ds) zero c e h = refl
item_at-put_same (item d ds) (suc i) c e h = item_at-put_same ds i c e h

pub item_at-put_other : (ds : Items) (i j : ℕ) (e : Document) → i ≢ j
    → item_at (put_item ds i e) j ≡ item_at ds j
item_at-put_other (item d ds) zero zero e h = absurd (h refl)
item_at-put_other (item d ds) (suc i) (suc j) e h = item_at-put_other ds i j e (λ k. h (ap suc k))
item_at-put_other _ _ _ e h = refl

pub item_at-insert_below : (ds : Items) (i j : ℕ) (e : Document) (es : Items) → j < i
    → insert_item ds i e ≡ Some es → item_at es j ≡ item_at ds j
item_at-insert_below ds zero j e es h k = absurd (omega arith)
item_at-insert_below no_items (suc i) j e es h k = cc
item_at-insert_below (item d ds) (suc i) j e es h k =
    go (insert_item ds i e) refl j h (item_at-insert_below ds i)
  where
    go : (o : Option Items) → insert_item ds i e ≡ o → (j : ℕ) → j < suc i
        → ((j : ℕ) (e : Document) (es : Items) → j < i → insert_item ds i e ≡ Some es
        → item_at es j ≡ item_at ds j) → item_at es j ≡ item_at (item d ds) j
    go None f j l ih = let found : None ≡ Some es = rw f at k in cc
    go (Some fs) f zero l ih = let found : Some (item d fs) ≡ Some es = rw f at k in
        let is : es ≡ item d fs = cc in rw is refl
    go (Some fs) f (suc j) l ih = let found : Some (item d fs) ≡ Some es = rw f at k in
        let is : es ≡ item d fs = cc in rw is (ih j e fs (omega arith) f)

pub item_at-drop_below : (ds : Items) (i j : ℕ) (es : Items) → j < i → drop_item ds i ≡ Some es
    → item_at es j ≡ item_at ds j
item_at-drop_below no_items i j es h k = cc
item_at-drop_below (item d ds) zero j es h k = absurd (omega arith)
item_at-drop_below (item d ds) (suc i) j es h k =
    go (drop_item ds i) refl j h (item_at-drop_below ds i)
  where
    go : (o : Option Items) → drop_item ds i ≡ o → (j : ℕ) → j < suc i
        → ((j : ℕ) (es : Items) → j < i → drop_item ds i ≡ Some es → item_at es j ≡ item_at ds j)
        → item_at es j ≡ item_at (item d ds) j
    go None f j l ih = let found : None ≡ Some es = rw f at k in cc
    go (Some fs) f zero l ih = let found : Some (item d fs) ≡ Some es = rw f at k in
        let is : es ≡ item d fs = cc in rw is refl
    go (Some fs) f (suc j) l ih = let found : Some (item d fs) ≡ Some es = rw f at k in
        let is : es ≡ item d fs = cc in rw is (ih j fs (omega arith) f)

-- Insertions and removals.

pub drop_item-there : (ds : Items) (i : ℕ) (c : Document) → item_at ds i ≡ Some c
    → (es : Items) × (drop_item ds i ≡ Some es)
drop_item-there no_items i c h = cc
drop_item-there (item d ds) zero c h = (ds, refl)
drop_item-there (item d ds) (suc i) c h = let r = drop_item-there ds i c h in
    (item d r.0, ap (option_map (item d)) r.1)

pub drop_item-none : (ds : Items) (i : ℕ) → item_at ds i ≡ None → drop_item ds i ≡ None
drop_item-none no_items i h = refl
drop_item-none (item d ds) zero h = cc
drop_item-none (item d ds) (suc i) h = ap (option_map (item d)) (drop_item-none ds i h)

pub drop_item-shorter : (ds : Items) (i : ℕ) (es : Items) → drop_item ds i ≡ Some es
    → (suc (items_length es) ≡ items_length ds) × (i < items_length ds)
drop_item-shorter no_items i es h = cc
drop_item-shorter (item d ds) zero es h = let same : ds ≡ es = cc in
    (ap (λ x. suc (items_length x)) (sym same), omega arith)
drop_item-shorter (item d ds) (suc i) es h = go (drop_item ds i) refl (drop_item-shorter ds i)
  where
    go : (o : Option Items) → drop_item ds i ≡ o
        → ((fs : Items) → drop_item ds i ≡ Some fs
        → (suc (items_length fs) ≡ items_length ds) × (i < items_length ds))
        → (suc (items_length es) ≡ items_length (item d ds)) × (suc i < items_length (item d ds))
    go None f ih = let found : None ≡ Some es = rw f at h in cc
    go (Some fs) f ih =
        let found : Some (item d fs) ≡ Some es = rw f at h in
        let is : es ≡ item d fs = cc in
        let k = ih fs f in
        (rw is (omega (arith, k.0)), omega (arith, k.1))

pub item_at-drop_behind : (ds : Items) (i j : ℕ) (es : Items) → i ≤ j → drop_item ds i ≡ Some es
    → item_at es j ≡ item_at ds (suc j)
item_at-drop_behind no_items i j es h k = cc
item_at-drop_behind (item d ds) zero j es h k = let same : ds ≡ es = cc in
    ap (λ x. item_at x j) (sym same)
item_at-drop_behind (item d ds) (suc i) zero es h k = absurd (omega arith)
item_at-drop_behind (item d ds) (suc i) (suc j) es h k =
    go (drop_item ds i) refl (item_at-drop_behind ds i j)
  where
    go : (o : Option Items) → drop_item ds i ≡ o
        → ((fs : Items) → i ≤ j → drop_item ds i ≡ Some fs → item_at fs j ≡ item_at ds (suc j))
        → item_at es (suc j) ≡ item_at (item d ds) (suc (suc j))
    go None f ih = let found : None ≡ Some es = rw f at k in cc
    go (Some fs) f ih =
        let found : Some (item d fs) ≡ Some es = rw f at k in
        let is : es ≡ item d fs = cc in
        rw is (ih fs (omega arith) f)

pub insert_item-there : (ds : Items) (i : ℕ) (v : Document) → i ≤ items_length ds
    → (es : Items) × (insert_item ds i v ≡ Some es)
insert_item-there ds zero v h = (item v ds, refl)
insert_item-there no_items (suc i) v h = absurd (omega arith)
insert_item-there (item d ds) (suc i) v h = let r = insert_item-there ds i v (omega arith) in
    (item d r.0, ap (option_map (item d)) r.1)

pub insert_item-none : (ds : Items) (i : ℕ) (v : Document) → items_length ds < i
    → insert_item ds i v ≡ None
insert_item-none ds zero v h = absurd (omega arith)
insert_item-none no_items (suc i) v h = refl
insert_item-none (item d ds) (suc i) v h =
    ap (option_map (item d)) (insert_item-none ds i v (omega arith))

pub item_at-insert_same : (ds : Items) (i : ℕ) (v : Document) (es : Items)
    → insert_item ds i v ≡ Some es → item_at es i ≡ Some v
item_at-insert_same ds zero v es h = let same : item v ds ≡ es = cc in
    ap (λ x. item_at x zero) (sym same)
item_at-insert_same no_items (suc i) v es h = cc
item_at-insert_same (item d ds) (suc i) v es h =
    go (insert_item ds i v) refl (item_at-insert_same ds i v)
  where
    go : (o : Option Items) → insert_item ds i v ≡ o
        → ((fs : Items) → insert_item ds i v ≡ Some fs → item_at fs i ≡ Some v)
        → item_at es (suc i) ≡ Some v
    go None f ih = let found : None ≡ Some es = rw f at h in cc
    go (Some fs) f ih =
        let found : Some (item d fs) ≡ Some es = rw f at h in
        let is : es ≡ item d fs = cc in
        rw is (ih fs f)

pub put_item-length : (ds : Items) (i : ℕ) (e : Document)
    → items_length (put_item ds i e) ≡ items_length ds
put_item-length (item d ds) (suc i) e = ap suc (put_item-length ds i e)
put_item-length _ _ e = refl

pub put_item-twice : (ds : Items) (i : ℕ) (a b : Document)
    → put_item (put_item ds i a) i b ≡ put_item ds i b
put_item-twice (item d ds) (suc i) a b = ap (item d) (put_item-twice ds i a b)
put_item-twice _ _ a b = refl

-- dropping an element that was inserted restores the list
pub drop_item-insert : (ds : Items) (i : ℕ) (v : Document) (es : Items)
    → insert_item ds i v ≡ Some es → drop_item es i ≡ Some ds
drop_item-insert ds zero v es h = let same : item v ds ≡ es = cc in
    ap (λ x. drop_item x zero) (sym same)
drop_item-insert no_items (suc i) v es h = cc
drop_item-insert (item d ds) (suc i) v es h = go (insert_item ds i v) refl (drop_item-insert ds i v)
  where
    go : (o : Option Items) → insert_item ds i v ≡ o
        → ((fs : Items) → insert_item ds i v ≡ Some fs → drop_item fs i ≡ Some ds)
        → drop_item es (suc i) ≡ Some (item d ds)
    go None f ih = let found : None ≡ Some es = rw f at h in cc
    go (Some fs) f ih =
        let found : Some (item d fs) ≡ Some es = rw f at h in
        let is : es ≡ item d fs = cc in
        rw (is, ih fs f) refl

-- One step of a walk, by the kind of the document.
use Rattle.std.proofs.Common.{◌≡◌, ℕ, ◌-◌, ◌^◌, ◌<◌, ◌≤◌, min, Bool, true, false, Option, Some}
use Rattle.std.proofs.Common.{None, option_map, option_and_then, is_some, ◌∷◌, refl, sym, ap, ◌∙◌}
use Rattle.std.proofs.Common.{arith, IfSome, nat_lt}
use Rattle.std.proofs.lemmas.Bool.Decides.{nat_tests}
use Rattle.relay_tree.specs.Document.{Document, list, object, Items}
use Rattle.relay_tree.specs.Part.{items_length, list_len, item_at, put_item, list_item}
use Rattle.relay_tree.specs.Part.{object_member, with_item, with_member}
use Rattle.relay_tree.proofs.Elements.{item_at-past, put_item-past, put_item-same}
use Rattle.relay_tree.proofs.Named.{set_member-same}
use Rattle.relay_pointer.specs.Index.{Token, index_of, number_of}
use Rattle.relay_pointer.specs.Path.{Path, child, put_element, with_child, at, put}

-- The number of a token, capped at 64 bits, names the same element of a list whose length fits in
-- 64 bits.

pub some_index : (o : Option ℕ) (n : ℕ) → Some n ≡ option_map (min (2 ^ 64 - 1)) o
    → (i : ℕ) × (o ≡ Some i) × (n ≡ min (2 ^ 64 - 1) i)
some_index None n h = cc
some_index (Some i) n h = (i, refl, cc)

pub no_index : (o : Option ℕ) → None ≡ option_map (min (2 ^ 64 - 1)) o → o ≡ None
no_index None h = refl
no_index (Some i) h = cc

item_counted : (ds : Items) (i n : ℕ) → items_length ds < 2 ^ 64 → n ≡ min (2 ^ 64 - 1) i
    → item_at ds n ≡ item_at ds i
item_counted ds i n few is = go (nat_lt i (2 ^ 64)) refl
  where
    go : (x : Bool) → nat_lt i (2 ^ 64) ≡ x → item_at ds n ≡ item_at ds i
    go true e = let near : n ≡ i = grind (arith, nat_tests) in ap (item_at ds) near
    go false e =
        let far : items_length ds ≤ i = grind (arith, nat_tests) in
        let past : items_length ds ≤ n = grind (arith, nat_tests) in
        item_at-past ds n past ∙ sym (item_at-past ds i far)

put_counted : (ds : Items) (i n : ℕ) (c : Document) → items_length ds < 2 ^ 64
    → n ≡ min (2 ^ 64 - 1) i → put_item ds n c ≡ put_item ds i c
put_counted ds i n c few is = go (nat_lt i (2 ^ 64)) refl
  where
    go : (x : Bool) → nat_lt i (2 ^ 64) ≡ x → put_item ds n c ≡ put_item ds i c
    go true e = let near : n ≡ i = grind (arith, nat_tests) in ap (λ k. put_item ds k c) near
    go false e =
        let far : items_length ds ≤ i = grind (arith, nat_tests) in
        let past : items_length ds ≤ n = grind (arith, nat_tests) in
        put_item-past ds n c past ∙ sym (put_item-past ds i c far)

-- The child that a token names, by the kind of the document.

pub child-number : (d : Document) (t : Token) (n m : ℕ) → list_len d ≡ Some m → m < 2 ^ 64
    → Some n ≡ number_of t → list_item d n ≡ child d t
child-number (list ds) t n m h few is =
    let s = some_index (index_of t) n is in
    let same : items_length ds ≡ m = cc in
    let small : items_length ds < 2 ^ 64 = omega arith in
    rw s.1 (item_counted ds s.0 n small s.2)
child-number _ t n m h few is = cc

pub with_child-number : (d : Document) (t : Token) (n m : ℕ) (c : Document) → list_len d ≡ Some m
    → m < 2 ^ 64 → Some n ≡ number_of t → with_item d n c ≡ with_child d t c
with_child-number (list ds) t n m c h few is =
    let s = some_index (index_of t) n is in
    let same : items_length ds ≡ m = cc in
    let small : items_length ds < 2 ^ 64 = omega arith in
    rw s.1 (ap list (put_counted ds s.0 n c small s.2))
with_child-number _ t n m c h few is = cc

-- if the document is not a list
pub child-member : (d : Document) (t : Token) → list_len d ≡ None → object_member d t ≡ child d t
child-member (list ds) t h = cc
child-member _ t h = refl

pub with_child-member : (d : Document) (t : Token) (c : Document) → list_len d ≡ None
    → with_member d t c ≡ with_child d t c
with_child-member (list ds) t c h = cc
with_child-member _ t c h = refl

pub was_list : (o r : Option ℕ) → r ≡ o → IfSome r (λ n. n < 2 ^ 64) → is_some r ≡ true
    → (m : ℕ) × (o ≡ Some m) × (m < 2 ^ 64)
was_list o None e few h = cc
was_list o (Some m) e few h = (m, sym e, few)

pub was_other : (o r : Option ℕ) → r ≡ o → is_some r ≡ false → o ≡ None
was_other o None e h = sym e
was_other o (Some m) e h = cc

-- writing a part back unchanged leaves the document as it was
element_same : (ds : Items) (o : Option ℕ) (c : Document) → option_and_then (item_at ds) o ≡ Some c
    → put_element ds o c ≡ ds
element_same ds None c h = refl
element_same ds (Some i) c h = put_item-same ds i c h

pub with_child-same : (d : Document) (t : Token) (c : Document) → child d t ≡ Some c
    → with_child d t c ≡ d
with_child-same (list ds) t c h = ap list (element_same ds (index_of t) c h)
with_child-same (object ms) t c h = ap object (set_member-same ms t c h)
with_child-same _ t c h = refl

-- One step of a walk.

pub put_step : (d e new n : Document) (t : Token) (path : Path) (v : Document) → child d t ≡ Some e
    → n ≡ with_child d t new → new ≡ put e path v → n ≡ put d (t ∷ path) v
put_step d e new n t path v found is below = rw found (is ∙ ap (with_child d t) below)

pub at_step : (d e : Document) (t : Token) (path : Path) → child d t ≡ Some e
    → at d (t ∷ path) ≡ at e path
at_step d e t path found = rw found refl

pub at_missing : (d : Document) (t : Token) (path : Path) → child d t ≡ None
    → at d (t ∷ path) ≡ None
at_missing d t path missing = rw missing refl

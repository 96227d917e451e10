-- The depth and the weight of elements and members, also after a change.
use Rattle.std.proofs.Common.{◌≡◌, ℕ, zero, suc, ◌+◌, ◌≤◌, max, List, length, Bool, true, false}
use Rattle.std.proofs.Common.{Option, Some, None, option_map, refl, sym, ap, subst, ◌∙◌, bytes_eq}
use Rattle.std.proofs.Common.{is_eq, nat_cmp, Ordering, Less, Equal, Greater, if◌then◌else◌}
use Rattle.std.proofs.Common.{is_some, arith}
use Rattle.std.specs.Ordering.{match_ordering}
use Rattle.std.specs.Cmp.Lexicographic.{slice_cmp}
use Rattle.std.proofs.lemmas.Map.Text.{is_eq-slice_cmp}
use Rattle.relay_tree.specs.Document.{Document, null, Items, no_items, item, Members, no_members}
use Rattle.relay_tree.specs.Document.{member, depth, items_depth, members_depth, weight}
use Rattle.relay_tree.specs.Document.{items_weight, members_weight}
use Rattle.relay_tree.specs.Part.{item_at, put_item, insert_item, drop_item, member_at, set_member}
use Rattle.relay_tree.specs.Part.{add_member, put_member, drop_member}
use Rattle.relay_tree.proofs.Names.{bytes_same, equal_bytes}

pub item_depth : (ds : Items) (i : ℕ) (c : Document) → item_at ds i ≡ Some c
    → depth c ≤ items_depth ds
item_depth no_items i c h = cc
item_depth (item d ds) zero c h = let same : d ≡ c = cc in let e = ap depth same in omega (arith, e)
item_depth (item d ds) (suc i) c h = let ih = item_depth ds i c h in omega (arith, ih)

pub member_depth : (ms : Members) (n : List ℕ) (c : Document) → member_at ms n ≡ Some c
    → depth c ≤ members_depth ms
member_depth no_members n c h = cc
member_depth (member m d ms) n c h = go (bytes_eq m n) h (member_depth ms n c)
  where
    go : (x : Bool) → (if x then Some d else member_at ms n) ≡ Some c
        → (member_at ms n ≡ Some c → depth c ≤ members_depth ms)
        → depth c ≤ max (depth d) (members_depth ms)
    go true k ih = let same : d ≡ c = cc in let e = ap depth same in omega (arith, e)
    go false k ih = let below = ih k in omega (arith, below)

pub weight-least : (d : Document) → 8 ≤ weight d
weight-least null = omega arith
weight-least _ = omega arith

pub put_item-weight : (ds : Items) (i : ℕ) (c e : Document) → item_at ds i ≡ Some c
    → items_weight (put_item ds i e) + weight c ≡ items_weight ds + weight e
put_item-weight no_items i c e h = cc
put_item-weight (item d ds) zero c e h = let same : d ≡ c = cc in let w = ap weight same in
    omega (arith, w)
put_item-weight (item d ds) (suc i) c e h = let ih = put_item-weight ds i c e h in omega (arith, ih)

pub put_item-depth : (ds : Items) (i : ℕ) (e : Document)
    → items_depth (put_item ds i e) ≤ max (items_depth ds) (depth e)
put_item-depth (item d ds) (suc i) e = let ih = put_item-depth ds i e in omega (arith, ih)
put_item-depth _ _ e = omega arith

pub set_member-depth : (ms : Members) (k : List ℕ) (e : Document)
    → members_depth (set_member ms k e) ≤ max (members_depth ms) (depth e)
set_member-depth no_members k e = omega arith
set_member-depth (member n d ms) k e = go (bytes_eq n k) (set_member-depth ms k e)
  where
    go : (x : Bool) → members_depth (set_member ms k e) ≤ max (members_depth ms) (depth e)
        → members_depth (if x then member n e ms else member n d (set_member ms k e))
        ≤ max (members_depth (member n d ms)) (depth e)
    go true ih = omega arith
    go false ih = omega (arith, ih)

pub insert_item-sizes : (ds : Items) (i : ℕ) (v : Document) (es : Items)
    → insert_item ds i v ≡ Some es
    → (items_weight es ≡ items_weight ds + weight v)
    × (items_depth es ≤ max (items_depth ds) (depth v))
insert_item-sizes ds zero v es h = let same : item v ds ≡ es = cc in let w = ap items_weight same in
    let e = ap items_depth same in (omega (arith, w), omega (arith, e))
insert_item-sizes no_items (suc i) v es h = cc
insert_item-sizes (item d ds) (suc i) v es h = go (insert_item ds i v) h (insert_item-sizes ds i v)
  where
    go : (o : Option Items) → option_map (item d) o ≡ Some es
        → ((fs : Items) → o ≡ Some fs
        → (items_weight fs ≡ items_weight ds + weight v)
        × (items_depth fs ≤ max (items_depth ds) (depth v)))
        → (items_weight es ≡ items_weight (item d ds) + weight v)
        × (items_depth es ≤ max (items_depth (item d ds)) (depth v))
    go None h ih = cc
    go (Some fs) h ih =
        let same : item d fs ≡ es = cc in
        let r = ih fs refl in
        (omega (arith, ap items_weight same, r.0), omega (arith, ap items_depth same, r.1))

unlike : (a n : List ℕ) → bytes_eq n a ≡ false → bytes_eq a n ≡ false
unlike a n h = go (bytes_eq a n) refl
  where
    go : (x : Bool) → bytes_eq a n ≡ x → x ≡ false
    go false e = refl
    go true e = let same : n ≡ a = sym (equal_bytes a n e) in
        sym (bytes_same a) ∙ subst (λ s. bytes_eq s a ≡ false) same h

added_weighs : (o : Ordering) (n a : List ℕ) (d v : Document) (ms rest : Members) → is_eq o ≡ false
    → members_weight rest ≡ members_weight ms + weight v + length a
    → members_weight
    (match_ordering o (member a v (member n d ms)) (member a v ms) (member n d rest))
    ≡ members_weight (member n d ms) + weight v + length a
added_weighs Less n a d v ms rest other ih = omega arith
added_weighs Equal n a d v ms rest other ih = cc
added_weighs Greater n a d v ms rest other ih = omega (arith, ih)

added_deep : (o : Ordering) (n a : List ℕ) (d v : Document) (ms rest : Members)
    → members_depth rest ≤ max (members_depth ms) (depth v)
    → members_depth
    (match_ordering o (member a v (member n d ms)) (member a v ms) (member n d rest))
    ≤ max (members_depth (member n d ms)) (depth v)
added_deep Greater n a d v ms rest ih = omega (arith, ih)
added_deep _ n a d v ms rest ih = omega arith

pub add_member-weight : (ms : Members) (a : List ℕ) (v : Document) → member_at ms a ≡ None
    → members_weight (add_member ms a v) ≡ members_weight ms + weight v + length a
add_member-weight no_members a v h = omega arith
add_member-weight (member n d ms) a v h = go (bytes_eq n a) refl h (add_member-weight ms a v)
  where
    go : (x : Bool) → bytes_eq n a ≡ x → (if x then Some d else member_at ms a) ≡ None
        → (member_at ms a ≡ None
        → members_weight (add_member ms a v) ≡ members_weight ms + weight v + length a)
        → members_weight (add_member (member n d ms) a v) ≡ members_weight (member n d ms)
        + weight v + length a
    go true k none ih = cc
    go false k none ih =
        added_weighs (slice_cmp nat_cmp a n) n a d v ms (add_member ms a v)
        (is_eq-slice_cmp a n ∙ unlike a n k) (ih none)

add_member-depth : (ms : Members) (a : List ℕ) (v : Document)
    → members_depth (add_member ms a v) ≤ max (members_depth ms) (depth v)
add_member-depth no_members a v = omega arith
add_member-depth (member n d ms) a v =
    added_deep (slice_cmp nat_cmp a n) n a d v ms (add_member ms a v) (add_member-depth ms a v)

pub put_member-depth : (ms : Members) (a : List ℕ) (v : Document)
    → members_depth (put_member ms a v) ≤ max (members_depth ms) (depth v)
put_member-depth ms a v = go (is_some (member_at ms a))
  where
    go : (x : Bool)
        → members_depth (if x then set_member ms a v else add_member ms a v)
        ≤ max (members_depth ms) (depth v)
    go true = set_member-depth ms a v
    go false = add_member-depth ms a v

pub drop_item-sizes : (ds : Items) (i : ℕ) (c : Document) (es : Items) → item_at ds i ≡ Some c
    → drop_item ds i ≡ Some es
    → (items_weight es + weight c ≡ items_weight ds) × (items_depth es ≤ items_depth ds)
drop_item-sizes no_items i c es h k = cc
drop_item-sizes (item d ds) zero c es h k = let a : d ≡ c = cc in let b : ds ≡ es = cc in
    let x = ap weight a in let y = ap items_weight b in let z = ap items_depth b in
    (omega (arith, x, y), omega (arith, z))
drop_item-sizes (item d ds) (suc i) c es h k =
    go (drop_item ds i) k (λ fs. drop_item-sizes ds i c fs h)
  where
    go : (o : Option Items) → option_map (item d) o ≡ Some es
        → ((fs : Items) → o ≡ Some fs
        → (items_weight fs + weight c ≡ items_weight ds) × (items_depth fs ≤ items_depth ds))
        → (items_weight es + weight c ≡ items_weight (item d ds))
        × (items_depth es ≤ items_depth (item d ds))
    go None k ih = cc
    go (Some fs) k ih =
        let same : item d fs ≡ es = cc in
        let r = ih fs refl in
        (omega (arith, ap items_weight same, r.0), omega (arith, ap items_depth same, r.1))

pub drop_member-sizes : (ms : Members) (a : List ℕ) (c : Document) (ns : Members)
    → member_at ms a ≡ Some c → drop_member ms a ≡ Some ns
    → (members_weight ns + weight c + length a ≡ members_weight ms)
    × (members_depth ns ≤ members_depth ms)
drop_member-sizes no_members a c ns h k = cc
drop_member-sizes (member n d ms) a c ns h k = go (bytes_eq n a) refl h k (drop_member-sizes ms a c)
  where
    rest : (o : Option Members) → option_map (member n d) o ≡ Some ns
        → ((fs : Members) → o ≡ Some fs
        → (members_weight fs + weight c + length a ≡ members_weight ms)
        × (members_depth fs ≤ members_depth ms))
        → (members_weight ns + weight c + length a ≡ members_weight (member n d ms))
        × (members_depth ns ≤ members_depth (member n d ms))
    rest None k ih = cc
    rest (Some fs) k ih =
        let same : member n d fs ≡ ns = cc in
        let r = ih fs refl in
        (omega (arith, ap members_weight same, r.0), omega (arith, ap members_depth same, r.1))

    go : (x : Bool) → bytes_eq n a ≡ x → (if x then Some d else member_at ms a) ≡ Some c
        → (if x then Some ms else option_map (member n d) (drop_member ms a)) ≡ Some ns
        → ((fs : Members) → member_at ms a ≡ Some c → drop_member ms a ≡ Some fs
        → (members_weight fs + weight c + length a ≡ members_weight ms)
        × (members_depth fs ≤ members_depth ms))
        → (members_weight ns + weight c + length a ≡ members_weight (member n d ms))
        × (members_depth ns ≤ members_depth (member n d ms))
    go true e h k ih =
        let s : d ≡ c = cc in
        let m : ms ≡ ns = cc in (
          omega (arith, ap length (equal_bytes n a e), ap weight s, ap members_weight m),
          omega (arith, ap members_depth m),
        )
    go false e h k ih = rest (drop_member ms a) k (λ fs. ih fs h)

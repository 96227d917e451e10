-- A map's entries compared with the members that they represent, and members after a change.
use Rattle.std.proofs.Common.{◌≡◌, ℕ, suc, length, List, [], ◌∷◌, ◌++◌, Bool, true, false, Option}
use Rattle.std.proofs.Common.{Some, None, option_map, is_some, cond, if◌then◌else◌, String, Global}
use Rattle.std.proofs.Common.{Ordering, Less, Equal, Greater, is_eq, string_bytes, string_cmp}
use Rattle.std.proofs.Common.{nat_cmp, bytes_eq, refl, sym, ap, subst, ◌∙◌}
use Rattle.std.proofs.lemmas.Cmp.{nat_list_cmp_total}
use Rattle.std.proofs.lemmas.Map.Text.{is_eq-slice_cmp}
use Rattle.std.specs.Cmp.Lexicographic.{slice_cmp}
use Rattle.std.specs.List.{AllByRecursion}
use Rattle.std.specs.List.Sorted.{IsStrictlySortedBy}
use Rattle.std.specs.Map.{keys_of, lookup, set_value, remove_entry}
use Rattle.std.specs.Ordering.{match_ordering, ordering_reverse}
use Rattle.std.specs.BTreeMap.{is_at, insert_entry}
use Rattle.relay_tree.specs.Document.{Document, Members, no_members, member}
use Rattle.relay_tree.specs.Part.{member_at, set_member, add_member, put_member, drop_member}
use Rattle.relay_tree.specs.Part.{members_length, AreAbove, IsOrdered}
use Rattle.relay_tree.specs.Seen.{members_of}
use Rattle.relay_tree.proofs.Names.{equal_bytes, bytes_eq-slice_cmp, equal_names, bytes_same}

abbrev pub Entry : Type 0
Entry = String Global × Document

-- Lookups and replacements.

members_of-cond : (b : Bool) (es rest : List Entry)
    → members_of (cond b es rest) ≡ (if b then members_of es else members_of rest)
members_of-cond true es rest = refl
members_of-cond false es rest = refl

pub members_of-lookup : (k : List ℕ) (es : List Entry)
    → lookup (is_at (λ l. slice_cmp nat_cmp k (string_bytes l))) es ≡ member_at (members_of es) k
members_of-lookup k [] = refl
members_of-lookup k (e ∷ es) =
    rw (bytes_eq-slice_cmp (string_bytes e.0) k, members_of-lookup k es) refl

pub members_of-set_value : (k : List ℕ) (es : List Entry) (d : Document)
    → members_of (set_value (is_at (λ l. slice_cmp nat_cmp k (string_bytes l))) es d)
    ≡ set_member (members_of es) k d
members_of-set_value k [] d = refl
members_of-set_value k (e ∷ es) d =
    members_of-cond (is_eq (slice_cmp nat_cmp k (string_bytes e.0))) _ _
    ∙ rw (bytes_eq-slice_cmp (string_bytes e.0) k, members_of-set_value k es d) refl

-- Insertions.

members_of-match_ordering : (o : Ordering) (a b c : List Entry)
    → members_of (match_ordering o a b c)
    ≡ match_ordering o (members_of a) (members_of b) (members_of c)
members_of-match_ordering Less a b c = refl
members_of-match_ordering _ a b c = refl

renamed : (o : Ordering) (k n : List ℕ) (v d : Document) (ms rest : Members) → (o ≡ Equal → k ≡ n)
    → match_ordering o (member k v (member n d ms)) (member n v ms) (member n d rest)
    ≡ match_ordering o (member k v (member n d ms)) (member k v ms) (member n d rest)
renamed Equal k n v d ms rest same = ap (λ m. member m v ms) (sym (same refl))
renamed _ k n v d ms rest same = refl

pub members_of-insert_entry : (es : List Entry) (k : String Global) (v : Document)
    → members_of (insert_entry string_cmp es k v) ≡ add_member (members_of es) (string_bytes k) v
members_of-insert_entry [] k v = refl
members_of-insert_entry (e ∷ es) k v =
    members_of-match_ordering (string_cmp k e.0) _ _ _
    ∙ ap (λ rest. match_ordering (string_cmp k e.0)
    (member (string_bytes k) v (members_of (e ∷ es)))
    (member (string_bytes e.0) v (members_of es)) (member (string_bytes e.0) e.1 rest))
    (members_of-insert_entry es k v)
    ∙ renamed (string_cmp k e.0) (string_bytes k) (string_bytes e.0) v e.1 (members_of es)
    (add_member (members_of es) (string_bytes k) v)
    (equal_names (string_bytes k) (string_bytes e.0))

below_rest : (k : List ℕ) (first : List ℕ) (es : List Entry) → slice_cmp nat_cmp k first ≡ Less
    → AllByRecursion (λ y. slice_cmp nat_cmp first (string_bytes y) ≡ Less) (keys_of es)
    → member_at (members_of es) k ≡ None
below_rest k first [] less h = refl
below_rest k first (e ∷ es) less h =
    let below : slice_cmp nat_cmp k (string_bytes e.0) ≡ Less =
    nat_list_cmp_total.trans k first (string_bytes e.0) less h.0 in
    let other : bytes_eq (string_bytes e.0) k ≡ false =
    bytes_eq-slice_cmp (string_bytes e.0) k ∙ ap is_eq below in
    rw other (below_rest k first es less h.1)

put_step : (o : Ordering) (k n : List ℕ) (d v : Document) (ms : Members) → is_eq o ≡ bytes_eq n k
    → (o ≡ Equal → k ≡ n) → (o ≡ Less → member_at ms k ≡ None)
    → add_member ms k v ≡ put_member ms k v
    → match_ordering o (member k v (member n d ms)) (member k v ms) (member n d (add_member ms k v))
    ≡ (if is_some (if bytes_eq n k then Some d else member_at ms k)
    then (if bytes_eq n k then member n v ms else member n d (set_member ms k v))
    else match_ordering o (member k v (member n d ms)) (member k v ms)
    (member n d (add_member ms k v)))
put_step Less k n d v ms is same none ih = rw (← is, none refl) refl
put_step Equal k n d v ms is same none ih = rw (← is, same refl) refl
put_step Greater k n d v ms is same none ih = rw (← is, ih) (go (is_some (member_at ms k)))
  where
    go : (x : Bool)
        → member n d (if x then set_member ms k v else add_member ms k v)
        ≡ (if x then member n d (set_member ms k v)
        else member n d (if x then set_member ms k v else add_member ms k v))
    go true = refl
    go false = refl

add_member-sorted : (es : List Entry) (k : List ℕ) (v : Document)
    → IsStrictlySortedBy string_cmp (keys_of es)
    → add_member (members_of es) k v ≡ put_member (members_of es) k v
unfolding IsStrictlySortedBy
add_member-sorted [] k v h = refl
add_member-sorted (e ∷ es) k v h =
    put_step (slice_cmp nat_cmp k (string_bytes e.0)) k (string_bytes e.0) e.1 v (members_of es)
    (sym (bytes_eq-slice_cmp (string_bytes e.0) k)) (equal_names k (string_bytes e.0))
    (λ less. below_rest k (string_bytes e.0) es less h.0) (add_member-sorted es k v h.1)

-- an insertion in a sorted map
pub inserted_member : (es : List Entry) (k : String Global) (v : Document)
    → IsStrictlySortedBy string_cmp (keys_of es)
    → members_of (insert_entry string_cmp es k v) ≡ put_member (members_of es) (string_bytes k) v
inserted_member es k v h =
    members_of-insert_entry es k v ∙ add_member-sorted es (string_bytes k) v h

pub below_middle : (first : Entry) (es : List Entry) (e : Entry) (more : List Entry)
    → AllByRecursion (λ y. string_cmp first.0 y ≡ Less) (keys_of (es ++ e ∷ more))
    → string_cmp first.0 e.0 ≡ Less
below_middle first [] e more h = h.0
below_middle first (x ∷ es) e more h = below_middle first es e more h.1

-- a member whose name is above all earlier names is inserted last
pub add_member-last : (done : List Entry) (e : Entry) (more : List Entry)
    → IsStrictlySortedBy string_cmp (keys_of (done ++ e ∷ more))
    → add_member (members_of done) (string_bytes e.0) e.1 ≡ members_of (done ++ e ∷ [])
unfolding IsStrictlySortedBy
add_member-last [] e more h = refl
add_member-last (first ∷ done) e more h =
    let above : slice_cmp nat_cmp (string_bytes e.0) (string_bytes first.0) ≡ Greater =
    nat_list_cmp_total.antisymm (string_bytes e.0) (string_bytes first.0)
    ∙ ap ordering_reverse (below_middle first done e more h.0) in
    rw above (ap (member (string_bytes first.0) first.1) (add_member-last done e more h.1))

-- Removals.

pub dropped_member : (es : List Entry) (k : List ℕ) (c : Document)
    → member_at (members_of es) k ≡ Some c
    → drop_member (members_of es) k
    ≡ Some (members_of (remove_entry (is_at (λ l. slice_cmp nat_cmp k (string_bytes l))) es))
dropped_member [] k c h = cc
dropped_member (e ∷ es) k c h = go (bytes_eq (string_bytes e.0) k) refl h (dropped_member es k c)
  where
    go : (x : Bool) → bytes_eq (string_bytes e.0) k ≡ x
        → (if x then Some e.1 else member_at (members_of es) k) ≡ Some c
        → (member_at (members_of es) k ≡ Some c
        → drop_member (members_of es) k
        ≡ Some (members_of (remove_entry (is_at (λ l. slice_cmp nat_cmp k (string_bytes l))) es)))
        → (if x then Some (members_of es)
        else option_map (member (string_bytes e.0) e.1) (drop_member (members_of es) k))
        ≡ Some (members_of
        (cond (is_eq (slice_cmp nat_cmp k (string_bytes e.0))) es
        (e ∷ remove_entry (is_at (λ l. slice_cmp nat_cmp k (string_bytes l))) es)))
    go true f there ih = rw (← bytes_eq-slice_cmp (string_bytes e.0) k, f) refl
    go false f there ih = rw (← bytes_eq-slice_cmp (string_bytes e.0) k, f, ih there) refl

-- After a change.

-- setting a member to the value that it has changes nothing
pub set_member-same : (ms : Members) (name : List ℕ) (e : Document) → member_at ms name ≡ Some e
    → set_member ms name e ≡ ms
set_member-same no_members name e h = refl
set_member-same (member n d ms) name e h = go (bytes_eq n name) h (set_member-same ms name e)
  where
    go : (x : Bool) → (if x then Some d else member_at ms name) ≡ Some e
        → (member_at ms name ≡ Some e → set_member ms name e ≡ ms)
        → (if x then member n e ms else member n d (set_member ms name e)) ≡ member n d ms
    go true there ih = let same : d ≡ e = cc in ap (λ x. member n x ms) (sym same)
    go false there ih = ap (member n d) (ih there)

pub member_at-set_same : (ms : Members) (a : List ℕ) (c e : Document) → member_at ms a ≡ Some c
    → member_at (set_member ms a e) a ≡ Some e
member_at-set_same no_members a c e h = cc
member_at-set_same (member n d ms) a c e h = go (bytes_eq n a) refl h (member_at-set_same ms a c e)
  where
    go : (x : Bool) → bytes_eq n a ≡ x → (if x then Some d else member_at ms a) ≡ Some c
        → (member_at ms a ≡ Some c → member_at (set_member ms a e) a ≡ Some e)
        → member_at (if x then member n e ms else member n d (set_member ms a e)) a ≡ Some e
    go true k there ih = rw k refl
    go false k there ih = rw k (ih there)

pub member_at-set_other : (ms : Members) (a b : List ℕ) (e : Document) → bytes_eq a b ≡ false
    → member_at (set_member ms a e) b ≡ member_at ms b
member_at-set_other no_members a b e h = refl
member_at-set_other (member n d ms) a b e h =
    go (bytes_eq n a) refl (member_at-set_other ms a b e h)
  where
    go : (x : Bool) → bytes_eq n a ≡ x → member_at (set_member ms a e) b ≡ member_at ms b
        → member_at (if x then member n e ms else member n d (set_member ms a e)) b
        ≡ member_at (member n d ms) b
    go true k ih =
        let same : n ≡ a = equal_bytes n a k in
        let other : bytes_eq n b ≡ false = rw same h in
        rw other refl
    go false k ih = rw ih refl

put_other_step : (o : Ordering) (n a b : List ℕ) (d e : Document) (ms rest : Members)
    → is_eq o ≡ bytes_eq a n → bytes_eq a b ≡ false → member_at rest b ≡ member_at ms b
    → member_at (match_ordering o (member a e (member n d ms)) (member a e ms) (member n d rest)) b
    ≡ member_at (member n d ms) b
put_other_step Less n a b d e ms rest o h ih = rw h refl
put_other_step Equal n a b d e ms rest o h ih =
    let same : a ≡ n = equal_bytes a n (sym o) in
    let k : bytes_eq n b ≡ false = subst (λ m. bytes_eq m b ≡ false) same h in
    rw (h, k) refl
put_other_step Greater n a b d e ms rest o h ih = rw ih refl

member_at-add_other : (ms : Members) (a b : List ℕ) (e : Document) → bytes_eq a b ≡ false
    → member_at (add_member ms a e) b ≡ member_at ms b
member_at-add_other no_members a b e h = rw h refl
member_at-add_other (member n d ms) a b e h =
    put_other_step (slice_cmp nat_cmp a n) n a b d e ms (add_member ms a e) (is_eq-slice_cmp a n) h
    (member_at-add_other ms a b e h)

pub member_at-put_other : (ms : Members) (a b : List ℕ) (e : Document) → bytes_eq a b ≡ false
    → member_at (put_member ms a e) b ≡ member_at ms b
member_at-put_other ms a b e h = go (is_some (member_at ms a))
  where
    go : (x : Bool)
        → member_at (if x then set_member ms a e else add_member ms a e) b ≡ member_at ms b
    go true = member_at-set_other ms a b e h
    go false = member_at-add_other ms a b e h

pub member_at-drop_other : (ms : Members) (a b : List ℕ) (ns : Members) → bytes_eq a b ≡ false
    → drop_member ms a ≡ Some ns → member_at ns b ≡ member_at ms b
member_at-drop_other no_members a b ns h k = cc
member_at-drop_other (member n d ms) a b ns h k =
    go (bytes_eq n a) refl (drop_member ms a) refl (member_at-drop_other ms a b)
  where
    go : (x : Bool) → bytes_eq n a ≡ x → (o : Option Members) → drop_member ms a ≡ o
        → ((ls : Members) → bytes_eq a b ≡ false → drop_member ms a ≡ Some ls
        → member_at ls b ≡ member_at ms b) → member_at ns b ≡ member_at (member n d ms) b
    go true e o f ih =
        let same : n ≡ a = equal_bytes n a e in
        let gone : bytes_eq n b ≡ false = rw same h in
        let found : Some ms ≡ Some ns = rw e at k in
        let is : ms ≡ ns = cc in
        rw (gone, is) refl
    go false e None f ih = let found : None ≡ Some ns = rw (e, f) at k in cc
    go false e (Some ls) f ih =
        let found : Some (member n d ls) ≡ Some ns = rw (e, f) at k in
        let is : ns ≡ member n d ls = cc in
        rw (is, ih ls h f) refl

pub removed_other : (es : List Entry) (k other : List ℕ) → bytes_eq k other ≡ false
    → member_at (members_of (remove_entry (is_at (λ l. slice_cmp nat_cmp k (string_bytes l))) es))
    other ≡ member_at (members_of es) other
removed_other [] k other h = refl
removed_other (e ∷ es) k other h =
    go (bytes_eq (string_bytes e.0) k) refl (removed_other es k other h)
  where
    go : (x : Bool) → bytes_eq (string_bytes e.0) k ≡ x
        → member_at (members_of
        (remove_entry (is_at (λ l. slice_cmp nat_cmp k (string_bytes l))) es)) other
        ≡ member_at (members_of es) other
        → member_at (members_of
        (cond (is_eq (slice_cmp nat_cmp k (string_bytes e.0))) es
        (e ∷ remove_entry (is_at (λ l. slice_cmp nat_cmp k (string_bytes l))) es))) other
        ≡ member_at (members_of (e ∷ es)) other
    go true f ih =
        let same : string_bytes e.0 ≡ k = equal_bytes (string_bytes e.0) k f in
        let gone : bytes_eq (string_bytes e.0) other ≡ false = rw same h in
        rw (← bytes_eq-slice_cmp (string_bytes e.0) k, f, gone) refl
    go false f ih = rw (← bytes_eq-slice_cmp (string_bytes e.0) k, f, ih) refl

pub set_member-twice : (ms : Members) (name : List ℕ) (a b : Document)
    → set_member (set_member ms name a) name b ≡ set_member ms name b
set_member-twice no_members name a b = refl
set_member-twice (member n d ms) name a b = go (bytes_eq n name) refl (set_member-twice ms name a b)
  where
    go : (x : Bool) → bytes_eq n name ≡ x
        → set_member (set_member ms name a) name b ≡ set_member ms name b
        → set_member (set_member (member n d ms) name a) name b ≡ set_member (member n d ms) name b
    go true e rest = rw e (rw e refl)
    go false e rest = rw e (rw e (ap (member n d) rest))

added_step : (o : Ordering) (n a : List ℕ) (d e : Document) (ms rest : Members)
    → is_eq o ≡ bytes_eq a n → member_at rest a ≡ Some e → bytes_eq n a ≡ false
    → member_at (match_ordering o (member a e (member n d ms)) (member a e ms) (member n d rest)) a
    ≡ Some e
added_step Greater n a d e ms rest o ih other = rw other ih
added_step _ n a d e ms rest o ih other = rw (bytes_same a) refl

member_at-add_same : (ms : Members) (a : List ℕ) (e : Document) → member_at ms a ≡ None
    → member_at (add_member ms a e) a ≡ Some e
member_at-add_same no_members a e h = rw (bytes_same a) refl
member_at-add_same (member n d ms) a e h = go (bytes_eq n a) refl h (member_at-add_same ms a e)
  where
    go : (x : Bool) → bytes_eq n a ≡ x → (if x then Some d else member_at ms a) ≡ None
        → (member_at ms a ≡ None → member_at (add_member ms a e) a ≡ Some e)
        → member_at (add_member (member n d ms) a e) a ≡ Some e
    go true k none ih = cc
    go false k none ih =
        added_step (slice_cmp nat_cmp a n) n a d e ms (add_member ms a e) (is_eq-slice_cmp a n)
        (ih none) k

pub member_at-put_same : (ms : Members) (a : List ℕ) (e : Document)
    → member_at (put_member ms a e) a ≡ Some e
member_at-put_same ms a e = go (member_at ms a) refl
  where
    go : (o : Option Document) → member_at ms a ≡ o → member_at (put_member ms a e) a ≡ Some e
    go None h = rw h (member_at-add_same ms a e h)
    go (Some c) h = rw h (member_at-set_same ms a c e h)

pub set_member-names : (ms : Members) (a b : List ℕ) (e : Document)
    → is_some (member_at (set_member ms a e) b) ≡ is_some (member_at ms b)
set_member-names no_members a b e = refl
set_member-names (member n d ms) a b e =
    go (bytes_eq n a) (bytes_eq n b) refl (set_member-names ms a b e)
  where
    go : (x y : Bool) → bytes_eq n b ≡ y
        → is_some (member_at (set_member ms a e) b) ≡ is_some (member_at ms b)
        → is_some (member_at (if x then member n e ms else member n d (set_member ms a e)) b)
        ≡ is_some (if y then Some d else member_at ms b)
    go true true k ih = rw k refl
    go true false k ih = rw k refl
    go false true k ih = rw k refl
    go false false k ih = rw k ih

pub drop_member-none : (ms : Members) (k : List ℕ) → member_at ms k ≡ None → drop_member ms k ≡ None
drop_member-none no_members k h = refl
drop_member-none (member n d ms) k h = go (bytes_eq n k) refl h (drop_member-none ms k)
  where
    go : (x : Bool) → bytes_eq n k ≡ x → (if x then Some d else member_at ms k) ≡ None
        → (member_at ms k ≡ None → drop_member ms k ≡ None)
        → (if x then Some ms else option_map (member n d) (drop_member ms k)) ≡ None
    go true e h ih = cc
    go false e h ih = ap (option_map (member n d)) (ih h)

pub drop_member-there : (ms : Members) (k : List ℕ) (c : Document) → member_at ms k ≡ Some c
    → (ns : Members) × (drop_member ms k ≡ Some ns)
drop_member-there no_members k c h = cc
drop_member-there (member n d ms) k c h = go (bytes_eq n k) refl h (drop_member-there ms k c)
  where
    go : (x : Bool) → bytes_eq n k ≡ x → (if x then Some d else member_at ms k) ≡ Some c
        → (member_at ms k ≡ Some c → (ns : Members) × (drop_member ms k ≡ Some ns))
        → (ns : Members)
        × ((if x then Some ms else option_map (member n d) (drop_member ms k)) ≡ Some ns)
    go true e h ih = (ms, refl)
    go false e h ih = let r = ih h in (member n d r.0, ap (option_map (member n d)) r.1)

dropped_step : (o : Ordering) (n a : List ℕ) (d e : Document) (ms rest : Members)
    → is_eq o ≡ bytes_eq a n → drop_member rest a ≡ Some ms → bytes_eq n a ≡ false
    → drop_member
    (match_ordering o (member a e (member n d ms)) (member a e ms) (member n d rest)) a
    ≡ Some (member n d ms)
dropped_step Less n a d e ms rest o ih other = rw (bytes_same a) refl
dropped_step Equal n a d e ms rest o ih other =
    let same : a ≡ n = equal_bytes a n (sym o) in
    let yes : bytes_eq n a ≡ true = subst (λ s. bytes_eq s a ≡ true) same (bytes_same a) in
    cc
dropped_step Greater n a d e ms rest o ih other = rw (other, ih) refl

-- dropping a member that was added restores the members
pub drop_member-add : (ms : Members) (a : List ℕ) (e : Document) → member_at ms a ≡ None
    → drop_member (add_member ms a e) a ≡ Some ms
drop_member-add no_members a e h = rw (bytes_same a) refl
drop_member-add (member n d ms) a e h = go (bytes_eq n a) refl h (drop_member-add ms a e)
  where
    go : (x : Bool) → bytes_eq n a ≡ x → (if x then Some d else member_at ms a) ≡ None
        → (member_at ms a ≡ None → drop_member (add_member ms a e) a ≡ Some ms)
        → drop_member (add_member (member n d ms) a e) a ≡ Some (member n d ms)
    go true k none ih = cc
    go false k none ih =
        dropped_step (slice_cmp nat_cmp a n) n a d e ms (add_member ms a e) (is_eq-slice_cmp a n)
        (ih none) k

-- Members in order.

pub members_length-members_of : (es : List Entry) → members_length (members_of es) ≡ length es
members_length-members_of [] = refl
members_length-members_of (e ∷ es) = ap suc (members_length-members_of es)

above_entries : (k : List ℕ) (es : List Entry)
    → AllByRecursion (λ y. slice_cmp nat_cmp k (string_bytes y) ≡ Less) (keys_of es)
    → AreAbove k (members_of es)
above_entries k [] h = tt
above_entries k (e ∷ es) h = (h.0, above_entries k es h.1)

-- the members of a map are in order
pub ordered_entries : (es : List Entry) → IsStrictlySortedBy string_cmp (keys_of es)
    → IsOrdered (members_of es)
unfolding IsStrictlySortedBy
ordered_entries [] h = tt
ordered_entries (e ∷ es) h = (above_entries (string_bytes e.0) es h.0, ordered_entries es h.1)

above_one : (name k : List ℕ) (ms : Members) (c : Document) → AreAbove name ms
    → member_at ms k ≡ Some c → slice_cmp nat_cmp name k ≡ Less
above_one name k no_members c above h = cc
above_one name k (member n d ms) c above h =
    go (bytes_eq n k) refl h (above_one name k ms c above.1)
  where
    go : (x : Bool) → bytes_eq n k ≡ x → (if x then Some d else member_at ms k) ≡ Some c
        → (member_at ms k ≡ Some c → slice_cmp nat_cmp name k ≡ Less)
        → slice_cmp nat_cmp name k ≡ Less
    go true e h ih = subst (λ s. slice_cmp nat_cmp name s ≡ Less) (equal_bytes n k e) above.0
    go false e h ih = ih h

first_of : (name : List ℕ) (e : Document) (ms : Members) → AreAbove name ms
    → add_member ms name e ≡ member name e ms
first_of name e no_members above = refl
first_of name e (member n d ms) above = rw above.0 refl

-- adding a member that was dropped restores the members
pub add_member-drop : (ms : Members) (k : List ℕ) (c : Document) (ns : Members) → IsOrdered ms
    → member_at ms k ≡ Some c → drop_member ms k ≡ Some ns → add_member ns k c ≡ ms
add_member-drop no_members k c ns ordered was h = cc
add_member-drop (member n d ms) k c ns ordered was h =
    go (bytes_eq n k) refl was h (λ rest. add_member-drop ms k c rest ordered.1)
  where
    behind : (o : Option Members) → drop_member ms k ≡ o → option_map (member n d) o ≡ Some ns
        → member_at ms k ≡ Some c
        → ((rest : Members) → member_at ms k ≡ Some c → drop_member ms k ≡ Some rest
        → add_member rest k c ≡ ms)
        → add_member ns k c ≡ member n d ms
    behind None f h was ih = cc
    behind (Some rest) f h was ih =
        let is : ns ≡ member n d rest = cc in
        let above : slice_cmp nat_cmp k n ≡ Greater =
        nat_list_cmp_total.antisymm k n
        ∙ ap ordering_reverse (above_one n k ms c ordered.0 was) in
        rw (is, above) (ap (member n d) (ih rest was f))

    go : (x : Bool) → bytes_eq n k ≡ x → (if x then Some d else member_at ms k) ≡ Some c
        → (if x then Some ms else option_map (member n d) (drop_member ms k)) ≡ Some ns
        → ((rest : Members) → member_at ms k ≡ Some c → drop_member ms k ≡ Some rest
        → add_member rest k c ≡ ms) → add_member ns k c ≡ member n d ms
    go true e was h ih =
        let name : n ≡ k = equal_bytes n k e in
        let value : d ≡ c = cc in
        let rest : ms ≡ ns = cc in
        rw (← rest, ← value, ← name) (first_of n d ms ordered.0)
    go false e was h ih = behind (drop_member ms k) refl h was ih

pub drop_member-shorter : (ms : Members) (k : List ℕ) (ns : Members) → drop_member ms k ≡ Some ns
    → suc (members_length ns) ≡ members_length ms
drop_member-shorter no_members k ns h = cc
drop_member-shorter (member n d ms) k ns h = go (bytes_eq n k) h (drop_member-shorter ms k)
  where
    behind : (o : Option Members) → drop_member ms k ≡ o → option_map (member n d) o ≡ Some ns
        → ((rest : Members) → drop_member ms k ≡ Some rest
        → suc (members_length rest) ≡ members_length ms)
        → suc (members_length ns) ≡ suc (members_length ms)
    behind None f h ih = cc
    behind (Some rest) f h ih =
        let is : ns ≡ member n d rest = cc in
        rw is (ap suc (ih rest f))

    go : (x : Bool) → (if x then Some ms else option_map (member n d) (drop_member ms k)) ≡ Some ns
        → ((rest : Members) → drop_member ms k ≡ Some rest
        → suc (members_length rest) ≡ members_length ms)
        → suc (members_length ns) ≡ suc (members_length ms)
    go true h ih = let rest : ms ≡ ns = cc in ap (λ xs. suc (members_length xs)) (sym rest)
    go false h ih = behind (drop_member ms k) refl h ih

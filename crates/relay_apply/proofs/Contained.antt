-- Insertions and removals in a list of documents, and in members.
use Rattle.std.proofs.Common.{◌≡◌, ℕ, ◌<◌, ◌≤◌, List, length, get_or, Bool, true, false, Option}
use Rattle.std.proofs.Common.{Some, None, Ok, Err, IsOk, ok_or, String, Global, string_bytes, refl}
use Rattle.std.proofs.Common.{sym, ap, ◌∙◌, nat_le, nat_cmp, arith, slice_get}
use Rattle.std.specs.declared.vec.Vec.{Vec}
use Rattle.std.specs.List.{insert, remove}
use Rattle.std.specs.Map.{lookup, remove_entry}
use Rattle.std.specs.BTreeMap.{is_at}
use Rattle.std.specs.Cmp.Lexicographic.{slice_cmp}
use Rattle.std.proofs.lemmas.Bool.Decides.{nat_tests}
use Rattle.std.proofs.lemmas.Option.{slice_get_read}
use Rattle.relay_tree.specs.Document.{Document, list, object, items_of}
use Rattle.relay_tree.specs.Entries.{Rows}
use Rattle.relay_tree.specs.Part.{item_at, member_at}
use Rattle.relay_tree.specs.Seen.{members_of, document_of}
use Rattle.relay_tree.specs.declared.tree.Node.{Node}
use Rattle.relay_tree.specs.declared.tree.Node.TheVariants as node
use Rattle.relay_tree.proofs.Elements.{items_length-items_of, slice_get-items_of}
use Rattle.relay_tree.proofs.Elements.{insert_item-items_of, drop_item-items_of, item_at-past}
use Rattle.relay_tree.proofs.Named.{Entry, members_of-lookup, dropped_member}
use Rattle.relay_pointer.specs.Index.{Token, index_of}
use Rattle.relay_patch.specs.Walk.{is_dash, element, step}
use Rattle.relay_patch.specs.declared.fault.Cause.TheVariants.{Missing, NotIndex, PastEnd}
use Rattle.relay_patch.specs.Patch.{insert_child, insert_element, drop_child}
use Rattle.relay_apply.specs.Steps.{insertion_index, index_within}
use Rattle.relay_pointer.proofs.Indexes.{Named}

-- Insertions.

index_inserts : (xs : List Document) (v : Document) (o : Option ℕ) (n i : ℕ) → n ≡ length xs
    → index_within n o ≡ Ok i
    → insert_element v (items_of xs) o ≡ Ok (list (items_of (insert xs i v)))
index_inserts xs v None n i long h = let k : Err NotIndex ≡ Ok i = h in cc
index_inserts xs v (Some j) n i long h = go (nat_le j n) refl
  where
    go : (x : Bool) → nat_le j n ≡ x
        → insert_element v (items_of xs) (Some j) ≡ Ok (list (items_of (insert xs i v)))
    go true e =
        let k : Ok j ≡ Ok i = rw e at h in
        let same : j ≡ i = cc in
        let within : j ≤ length xs = grind (arith, nat_tests) in
        rw (insert_item-items_of xs j v within, same) refl
    go false e = let k : Err PastEnd ≡ Ok i = rw e at h in cc

pub inserts : (xs : List Document) (t : Token) (v : Document) (n i : ℕ) → n ≡ length xs
    → Ok i ≡ insertion_index n t
    → insert_child v t (list (items_of xs)) ≡ Ok (list (items_of (insert xs i v)))
inserts xs t v n i long is = go (is_dash t) refl
  where
    go : (x : Bool) → is_dash t ≡ x
        → insert_child v t (list (items_of xs)) ≡ Ok (list (items_of (insert xs i v)))
    go true e =
        let k : Ok i ≡ Ok n = rw e at is in
        let same : i ≡ length xs = cc in
        rw (
          e,
          items_length-items_of xs,
          same,
          insert_item-items_of xs (length xs) v (omega arith),
        ) refl
    go false e = rw e (index_inserts xs v (index_of t) n i long (sym (rw e at is)))

-- Removals.

found_at : (xs : List Document) (t : Token) (i : ℕ) (o : Option Document) → index_of t ≡ Some i
    → item_at (items_of xs) i ≡ o → IsOk (ok_or o Missing) → Named xs t
found_at xs t i None is h there = cc
found_at xs t i (Some v) is h there =
    record {
      index = i;
      is = is;
      within = inside (nat_le (length xs) i) refl;
      value = v;
      there = slice_get-items_of xs i ∙ h;
    }
  where
    inside : (x : Bool) → nat_le (length xs) i ≡ x → i < length xs
    inside true e =
        let past : length xs ≤ i = grind (arith, nat_tests) in
        let none : item_at (items_of xs) i ≡ None =
        item_at-past (items_of xs) i (rw (items_length-items_of xs) past) in
        let both : None ≡ Some v = sym none ∙ h in
        cc
    inside false e = grind (arith, nat_tests)

pub named : (xs : List Document) (t : Token) → IsOk (step (list (items_of xs)) t) → Named xs t
named xs t there = go (index_of t) refl there
  where
    go : (o : Option ℕ) → index_of t ≡ o → IsOk (element (items_of xs) t o) → Named xs t
    go None e k = cc
    go (Some i) e k = found_at xs t i (item_at (items_of xs) i) e refl k

pub element_is : (xs : List Document) (t : Token) (m : Named xs t)
    → step (list (items_of xs)) t ≡ Ok m.value
element_is xs t m =
    let there : item_at (items_of xs) m.index ≡ Some m.value =
    sym (slice_get-items_of xs m.index) ∙ m.there in rw (m.is, there) refl

pub element_taken : (xs : List Document) (t : Token) (n : ℕ) (r : Document) → (m : Named xs t)
    → n ≡ m.index → r ≡ get_or xs n r → step (list (items_of xs)) t ≡ Ok r
element_taken xs t n r m same is =
    let inside : n < length xs = omega (arith, same, m.within) in
    let found : Some r ≡ Some m.value =
    sym (slice_get_read xs (length xs) n r refl inside is) ∙ ap (slice_get xs) same
    ∙ m.there in
    let value : r ≡ m.value = cc in
    element_is xs t m ∙ ap Ok (sym value)

pub element_drops : (xs : List Document) (t : Token) (m : Named xs t)
    → drop_child t (list (items_of xs)) ≡ Ok (list (items_of (remove xs m.index)))
element_drops xs t m = rw (m.is, drop_item-items_of xs m.index m.within) refl

-- the member that a token names
pub member_is : (es : List Entry) (k : List ℕ) → IsOk (step (object (members_of es)) k)
    → (v : Document) × (member_at (members_of es) k ≡ Some v)
member_is es k there = go (member_at (members_of es) k) there
  where
    go : (o : Option Document) → IsOk (ok_or o Missing) → (v : Document) × (o ≡ Some v)
    go None h = cc
    go (Some v) h = (v, refl)

pub member_drops : (es : List Entry) (k : List ℕ) (v : Document)
    → member_at (members_of es) k ≡ Some v
    → drop_child k (object (members_of es))
    ≡ Ok (object (members_of (remove_entry (is_at (λ l. slice_cmp nat_cmp k (string_bytes l))) es)))
member_drops es k v there = rw (dropped_member es k v there) refl

-- a node that is neither a list nor an object has no parts
pub no_parts : (n : Node) (t : Token) → ((x : Vec Document Global) → n ≡ node.List x → ⊥)
    → ((x : Rows (String Global) Document) → n ≡ node.Members x → ⊥)
    → IsOk (step (document_of n) t) → ⊥
no_parts (node.List v) t l m h = l v refl
no_parts (node.Members x) t l m h = m x refl
no_parts _ t l m h = cc

-- a map returns the member
pub member_taken : (es : List Entry) (k : List ℕ) (r : Option Document)
    → IsOk (step (object (members_of es)) k)
    → r ≡ lookup (is_at (λ l. slice_cmp nat_cmp k (string_bytes l))) es
    → (v : Document) × (r ≡ Some v) × (member_at (members_of es) k ≡ Some v)
member_taken es k r there is =
    let m = member_is es k there in
    (m.0, is ∙ members_of-lookup k es ∙ m.1, m.1)

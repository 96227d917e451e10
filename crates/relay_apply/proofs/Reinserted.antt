-- A part that was removed from a container and is restored.
use Rattle.std.specs.List.{insert}
use Rattle.std.proofs.Common.{◌≡◌, ℕ, zero, suc, List, length, ◌≤◌, [], ◌∷◌, ◌++◌, Bool, true}
use Rattle.std.proofs.Common.{false, Option, Some, None, Ok, String, Global, string_bytes, refl}
use Rattle.std.proofs.Common.{sym, ap, ◌∙◌, ◌<◌, ◌^◌, nat_lt, if◌then◌else◌, arith}
use Rattle.std.proofs.lemmas.Bool.Decides.{nat_tests}
use Rattle.relay_tree.specs.Document.{Document, list, object, Items, no_items, item, items_of}
use Rattle.relay_tree.specs.Document.{Members}
use Rattle.relay_tree.specs.Part.{items_length, item_at, insert_item, drop_item, member_at}
use Rattle.relay_tree.specs.Part.{drop_member, members_length, IsOrdered}
use Rattle.relay_tree.specs.Entries.{refilled_entries}
use Rattle.relay_tree.specs.Seen.{members_of}
use Rattle.relay_tree.proofs.Named.{Entry, members_length-members_of, members_of-insert_entry}
use Rattle.relay_tree.proofs.Named.{add_member-drop, drop_member-shorter}
use Rattle.relay_tree.proofs.Elements.{items_length-items_of, insert_item-items_of}
use Rattle.relay_tree.proofs.Elements.{insert_item-past, drop_item-shorter}
use Rattle.relay_pointer.specs.Index.{Token, index_of}
use Rattle.relay_pointer.specs.Path.{Path, at, put}
use Rattle.relay_pointer.proofs.Puts.{put-back}
use Rattle.relay_patch.specs.Walk.{then_do, step, walk}
use Rattle.relay_patch.specs.declared.fault.Cause.TheVariants.{Missing}
use Rattle.relay_patch.specs.Patch.{at_path, drop_child, replaced}
use Rattle.relay_patch.specs.Change.{in_list, in_object}
use Rattle.relay_apply.specs.Undo.{reinserted_items, reinserted_item, reinserted_member, with_part}
use Rattle.relay_patch.proofs.Refusals.{then_ok, then_itself, ok_or_some}
use Rattle.relay_patch.proofs.Parts.{at_index}
use Rattle.relay_patch.proofs.Walks.{at_reached, walk-append}
use Rattle.relay_patch.proofs.Exchanges.{at_end, replaced-is, walk-replaced}
use Rattle.relay_apply.proofs.Drops.{shorter, fewer}

-- inserting an element that was dropped restores the list
pub insert_item-drop : (ds : Items) (i : ℕ) (e : Document) (es : Items) → item_at ds i ≡ Some e
    → drop_item ds i ≡ Some es → insert_item es i e ≡ Some ds
insert_item-drop no_items i e es was h = cc
insert_item-drop (item d ds) zero e es was h =
    let same : d ≡ e = cc in
    let rest : ds ≡ es = cc in
    rw (← same, ← rest) refl
insert_item-drop (item d ds) (suc i) e es was h = go (drop_item ds i) refl (insert_item-drop ds i e)
  where
    go : (o : Option Items) → drop_item ds i ≡ o
        → ((fs : Items) → item_at ds i ≡ Some e → drop_item ds i ≡ Some fs
        → insert_item fs i e ≡ Some ds) → insert_item es (suc i) e ≡ Some (item d ds)
    go None f ih = let found : None ≡ Some es = rw f at h in cc
    go (Some fs) f ih =
        let found : Some (item d fs) ≡ Some es = rw f at h in
        let is : es ≡ item d fs = cc in
        rw (is, ih fs was f) refl

-- A list into which an element is reinserted, as the vector of its elements.

pub no_space : (xs : List Document) (capacity i : ℕ) (e : Document) → capacity ≤ length xs
    → items_of xs ≡ reinserted_items capacity i e (items_of xs)
no_space xs capacity i e full =
    let few : nat_lt (length xs) capacity ≡ false = grind (arith, nat_tests) in
    rw (items_length-items_of xs, few) refl

pub past_end : (xs : List Document) (capacity i : ℕ) (e : Document) → length xs < i
    → items_of xs ≡ reinserted_items capacity i e (items_of xs)
past_end xs capacity i e past =
    rw (insert_item-past xs i e past) (go (nat_lt (items_length (items_of xs)) capacity))
  where
    go : (x : Bool) → items_of xs ≡ (if x then items_of xs else items_of xs)
    go true = refl
    go false = refl

pub with_space : (xs : List Document) (capacity i : ℕ) (e : Document) → length xs < capacity
    → i ≤ length xs → items_of (insert xs i e) ≡ reinserted_items capacity i e (items_of xs)
with_space xs capacity i e large inside =
    let fits : nat_lt (length xs) capacity ≡ true = grind (arith, nat_tests) in
    rw (items_length-items_of xs, fits, insert_item-items_of xs i e inside) refl

-- A container that is restored.

-- a change that makes the container of what is left of it restores the document
pub restored : (change : Document → Document) (before : Path) (c rest d d' : Document)
    → walk d before ≡ Ok c → replaced before rest d ≡ Ok d' → change rest ≡ c
    → with_part change before (at d' before) d' ≡ d
restored change before c rest d d' there new is =
    let r = replaced-is before rest d d' new in
    let was : at d before ≡ Some c = at_reached before d c there in
    let now : at d' before ≡ Some rest =
    at_reached before d' rest (walk-replaced before rest d d' new) in
    let again : put d' before c ≡ d = rw r.2 (put-back d before c rest was) in
    rw (now, is) again

-- An element removed from its list.

reinserts_item : (ds es : Items) (i capacity : ℕ) (e : Document) → drop_item ds i ≡ Some es
    → item_at ds i ≡ Some e → capacity ≡ items_length ds
    → reinserted_item capacity i e (list es) ≡ list ds
reinserts_item ds es i capacity e went was large =
    let short = (drop_item-shorter ds i es went).0 in
    let fits : nat_lt (items_length es) capacity ≡ true = grind (arith, nat_tests) in
    rw (fits, insert_item-drop ds i e es was went) refl

-- an element of a list, at the place that its index names
pub record Taken (before : Path) (t : Token) (d d' e : Document) : Type 0 where
  pub items : Items
  pub rest : Items
  pub index : ℕ
  pub there : walk d before ≡ Ok (list items)
  pub named : index_of t ≡ Some index
  pub went : drop_item items index ≡ Some rest
  pub was : item_at items index ≡ Some e
  pub new : replaced before (list rest) d ≡ Ok d'

taken_of : (before : Path) (t : Token) (c d d' e : Document) → walk d before ≡ Ok c
    → walk d (before ++ t ∷ []) ≡ Ok e
    → then_do (in_list drop_child t c) (λ c'. replaced before c' d) ≡ Ok d' → Taken before t d d' e
taken_of before t (list ds) d d' e there was h =
    let a = then_ok (in_list drop_child t (list ds)) (λ c'. replaced before c' d) d' h in
    let n = at_index drop_child t (list ds) a.0 (index_of t) a.1 in
    let s = shorter ds t a.0 n.2 in
    let found : step (list ds) t ≡ Ok e =
    sym (then_itself (step (list ds) t))
    ∙ (rw there at (sym (walk-append before (t ∷ []) d) ∙ was)) in
    let at_it : item_at ds s.index ≡ Some e = ok_or_some _ Missing _ (rw s.named at found) in
    record {
      items = ds;
      rest = s.items;
      index = s.index;
      there = there;
      named = s.named;
      went = s.gone;
      was = at_it;
      new = rw (← s.is) a.2;
    }
taken_of before t _ d d' e there was h = cc

pub taken : (before : Path) (t : Token) (d d' e : Document)
    → at_path (in_list drop_child) (before ++ t ∷ []) d ≡ Ok d' → walk d (before ++ t ∷ []) ≡ Ok e
    → Taken before t d d' e
taken before t d d' e h was =
    let w = then_ok (walk d before) (λ c.
    then_do (in_list drop_child t c) (λ c'.
    replaced before c' d)) d' (sym (at_end (in_list drop_child) before t d) ∙ h) in
    taken_of before t w.0 d d' e w.1 was w.2

pub taken_again : (before : Path) (t : Token) (d d' e : Document) (capacity : ℕ)
    → (x : Taken before t d d' e) → capacity ≡ items_length x.items
    → with_part (reinserted_item capacity x.index e) before (at d' before) d' ≡ d
taken_again before t d d' e capacity x large =
    restored (reinserted_item capacity x.index e) before (list x.items) (list x.rest) d d' x.there
    x.new (reinserts_item x.items x.rest x.index capacity e x.went x.was large)

-- the same in terms of a path and numbers of 64 bits
pub item_again : (path before : Path) (t : Token) (d d' e : Document) (n i capacity : ℕ)
    → path ≡ before ++ t ∷ [] → at_path (in_list drop_child) path d ≡ Ok d' → walk d path ≡ Ok e
    → n < 2 ^ 64 → ((ds : Items) → walk d before ≡ Ok (list ds) → n ≡ items_length ds)
    → capacity ≡ n → ((j : ℕ) → index_of t ≡ Some j → j < 2 ^ 64 → i ≡ j)
    → with_part (reinserted_item capacity i e) before (at d' before) d' ≡ d
item_again path before t d d' e n i capacity is h was few long large at_it =
    let x = taken before t d d' e (rw is at h) (rw is at was) in
    let count = long x.items x.there in
    let same : i ≡ x.index =
    at_it x.index x.named (omega (
      arith,
      few,
      count,
      (drop_item-shorter x.items x.index x.rest x.went).1,
    )) in
    rw same (taken_again before t d d' e capacity x (large ∙ count))

-- A member removed from its object.

reinserts_member : (ms ns : Members) (t : Token) (capacity : ℕ) (e : Document)
    → drop_member ms t ≡ Some ns
    → member_at ms t ≡ Some e → IsOrdered ms → members_length ms ≤ capacity
    → reinserted_member capacity t e (object ns) ≡ object ms
reinserts_member ms ns t capacity e went was ordered large =
    let short = drop_member-shorter ms t ns went in
    let fits : nat_lt (members_length ns) capacity ≡ true = grind (arith, nat_tests) in
    rw (fits, add_member-drop ms t e ns ordered was went) refl

-- a member of an object
pub record Parted (before : Path) (t : Token) (d d' e : Document) : Type 0 where
  pub members : Members
  pub rest : Members
  pub there : walk d before ≡ Ok (object members)
  pub went : drop_member members t ≡ Some rest
  pub was : member_at members t ≡ Some e
  pub new : replaced before (object rest) d ≡ Ok d'

parted_of : (before : Path) (t : Token) (c d d' e : Document) → walk d before ≡ Ok c
    → walk d (before ++ t ∷ []) ≡ Ok e
    → then_do (in_object drop_child t c) (λ c'. replaced before c' d) ≡ Ok d'
    → Parted before t d d' e
parted_of before t (object ms) d d' e there was h =
    let a = then_ok (in_object drop_child t (object ms)) (λ c'. replaced before c' d) d' h in
    let s = fewer ms t a.0 a.1 in
    let found : step (object ms) t ≡ Ok e =
    sym (then_itself (step (object ms) t))
    ∙ (rw there at (sym (walk-append before (t ∷ []) d) ∙ was)) in
    let at_it : member_at ms t ≡ Some e = ok_or_some _ Missing _ found in
    record {
      members = ms;
      rest = s.members;
      there = there;
      went = s.gone;
      was = at_it;
      new = rw (← s.is) a.2;
    }
parted_of before t _ d d' e there was h = cc

pub parted : (before : Path) (t : Token) (d d' e : Document)
    → at_path (in_object drop_child) (before ++ t ∷ []) d ≡ Ok d'
    → walk d (before ++ t ∷ []) ≡ Ok e → Parted before t d d' e
parted before t d d' e h was =
    let w = then_ok (walk d before) (λ c.
    then_do (in_object drop_child t c) (λ c'.
    replaced before c' d)) d' (sym (at_end (in_object drop_child) before t d) ∙ h) in
    parted_of before t w.0 d d' e w.1 was w.2

-- the same in terms of a path
pub member_again : (path before : Path) (t : Token) (d d' e : Document) (n capacity : ℕ)
    → path ≡ before ++ t ∷ [] → at_path (in_object drop_child) path d ≡ Ok d' → walk d path ≡ Ok e
    → ((ms : Members) → walk d before ≡ Ok (object ms) → n ≡ members_length ms)
    → ((ms : Members) → walk d before ≡ Ok (object ms) → IsOrdered ms) → n ≤ capacity
    → with_part (reinserted_member capacity t e) before (at d' before) d' ≡ d
member_again path before t d d' e n capacity is h was long ordered large =
    let x = parted before t d d' e (rw is at h) (rw is at was) in
    let count = long x.members x.there in
    restored (reinserted_member capacity t e) before (object x.members) (object x.rest) d d' x.there
    x.new (reinserts_member x.members x.rest t capacity e x.went x.was (ordered x.members x.there)
    (omega (arith, count, large)))

-- An object into which a member is reinserted, in terms of its entries.

members_of-if : (x : Bool) (es fs : List Entry)
    → members_of (if x then es else fs) ≡ (if x then members_of es else members_of fs)
members_of-if true es fs = refl
members_of-if false es fs = refl

pub reinserted_member_entries : (es : List Entry) (name : String Global) (v : Document)
    (capacity : ℕ) → object (members_of (refilled_entries capacity name v es))
    ≡ reinserted_member capacity (string_bytes name) v (object (members_of es))
reinserted_member_entries es name v capacity =
    ap object (members_of-if (nat_lt (length es) capacity) _ es)
    ∙ rw (members_length-members_of es, members_of-insert_entry es name v) refl

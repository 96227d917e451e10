-- A container from which a part is removed.
use Rattle.std.proofs.Common.{◌≡◌, ℕ, suc, ◌+◌, ◌-◌, ◌<◌, ◌≤◌, Bool, true, false, Option, Some}
use Rattle.std.proofs.Common.{None, Ok, refl, sym, ap, ◌∙◌, bytes_eq, nat_le, nat_lt, ok_or, arith}
use Rattle.std.proofs.lemmas.Bool.Decides.{nat_tests}
use Rattle.relay_tree.specs.Document.{Document, list, object, Items, Members}
use Rattle.relay_tree.specs.Part.{items_length, item_at, drop_item, drop_member, list_len}
use Rattle.relay_tree.specs.Part.{list_item}
use Rattle.relay_tree.proofs.Elements.{item_at-past, item_at-drop_below, drop_item-shorter}
use Rattle.relay_tree.proofs.Elements.{item_at-drop_behind}
use Rattle.relay_tree.proofs.Named.{member_at-drop_other}
use Rattle.relay_pointer.specs.Index.{Token, index_of}
use Rattle.relay_apply.specs.declared.insert_target.InsertTarget.TheVariants as insert_target
use Rattle.relay_patch.specs.Walk.{then_do, element, step}
use Rattle.relay_patch.specs.declared.fault.Cause.TheVariants.{Missing}
use Rattle.relay_patch.specs.Patch.{drop_child, drop_element}
use Rattle.relay_apply.specs.Steps.{insertion_index, resolve_insert_in, shifted, shifted_index}
use Rattle.relay_patch.proofs.Refusals.{then_ok, ok_or_some}

-- Lists.

-- a list from which an element was removed
pub record Shorter (ds : Items) (t : Token) (rest : Document) : Type 0 where
  pub index : ℕ
  pub items : Items
  pub named : index_of t ≡ Some index
  pub gone : drop_item ds index ≡ Some items
  pub is : rest ≡ list items

pub shorter : (ds : Items) (t : Token) (rest : Document) → drop_child t (list ds) ≡ Ok rest
    → Shorter ds t rest
shorter ds t rest h = go (index_of t) refl h
  where
    go : (o : Option ℕ) → index_of t ≡ o → drop_element ds t o ≡ Ok rest → Shorter ds t rest
    go None e k = cc
    go (Some i) e k =
        let s = then_ok (ok_or (drop_item ds i) Missing) (λ es. Ok (list es)) rest k in
        let whole : Ok (list s.0) ≡ Ok rest = s.2 in
        record { index = i; items = s.0; named = e; gone = ok_or_some _ _ _ s.1; is = cc }

-- an object from which a member was removed
pub record Fewer (ms : Members) (t : Token) (rest : Document) : Type 0 where
  pub members : Members
  pub gone : drop_member ms t ≡ Some members
  pub is : rest ≡ object members

pub fewer : (ms : Members) (t : Token) (rest : Document) → drop_child t (object ms) ≡ Ok rest
    → Fewer ms t rest
fewer ms t rest h =
    let s = then_ok (ok_or (drop_member ms t) Missing) (λ ns. Ok (object ns)) rest h in
    let whole : Ok (object s.0) ≡ Ok rest = s.2 in
    record { members = s.0; gone = ok_or_some _ _ _ s.1; is = cc }

-- The place at which a token inserts.

pub resolve_insert_in-shorter : (d : Document) (n k : ℕ) (gone t : Token) (rest : Document)
    → list_len d ≡ Some n → k ≡ n - 1 → drop_child gone d ≡ Ok rest
    → then_do (insertion_index k t) (λ i. Ok (insert_target.Item i)) ≡ resolve_insert_in rest t
resolve_insert_in-shorter (list ds) n k gone t rest len one h =
    let s = shorter ds gone rest h in
    let shorter_by = (drop_item-shorter ds s.index s.items s.gone).0 in
    let long : items_length ds ≡ n = cc in
    let same : k ≡ items_length s.items = omega arith in
    rw (s.is, same) refl
resolve_insert_in-shorter _ n k gone t rest len one h = cc

pub resolve_insert_in-fewer : (d : Document) (gone t : Token) (rest : Document) → list_len d ≡ None
    → bytes_eq gone t ≡ false → drop_child gone d ≡ Ok rest
    → resolve_insert_in d t ≡ resolve_insert_in rest t
resolve_insert_in-fewer (object ms) gone t rest len other h =
    let s = fewer ms gone rest h in
    rw (s.is, member_at-drop_other ms gone t s.members other s.gone) refl
resolve_insert_in-fewer _ gone t rest len other h = cc

-- The part that a token names.

shifts : (n i j k : ℕ) → shifted_index n (Some i) (Some j) ≡ Some k → (i ≤ j) × (k ≡ suc j)
shifts n i j k h = go (nat_le i j) (nat_lt j n) refl refl
  where
    go : (x y : Bool) → nat_le i j ≡ x → nat_lt j n ≡ y → (i ≤ j) × (k ≡ suc j)
    go true true e f = let same : Some (j + 1) ≡ Some k = rw (e, f) at h in
        let is : j + 1 ≡ k = cc in (grind (arith, nat_tests), omega arith)
    go true false e f = let none : None ≡ Some k = rw (e, f) at h in cc
    go false y e f = let none : None ≡ Some k = rw e at h in cc

-- an index that does not shift is before the removed element or past the end, and names the same
-- element
stays_put : (ds es : Items) (i j : ℕ) → drop_item ds i ≡ Some es
    → shifted_index (items_length ds) (Some i) (Some j) ≡ None → item_at es j ≡ item_at ds j
stays_put ds es i j gone h = go (nat_le i j) (nat_lt j (items_length ds)) refl refl
  where
    go : (x y : Bool) → nat_le i j ≡ x → nat_lt j (items_length ds) ≡ y
        → item_at es j ≡ item_at ds j
    go true true e f = let same : Some (j + 1) ≡ None = rw (e, f) at h in cc
    go true false e f =
        let past : items_length ds ≤ j = grind (arith, nat_tests) in
        let one = (drop_item-shorter ds i es gone).0 in
        item_at-past es j (omega arith) ∙ sym (item_at-past ds j past)
    go false y e f = let below : j < i = grind (arith, nat_tests) in
        item_at-drop_below ds i j es below gone

pub steps_behind : (d : Document) (gone t : Token) (k : ℕ) (rest : Document)
    → shifted d gone t ≡ Some k → drop_child gone d ≡ Ok rest
    → step rest t ≡ ok_or (list_item d k) Missing
steps_behind (list ds) gone t k rest h dropped =
    let s = shorter ds gone rest dropped in
    rw s.is (go s (index_of t) (rw s.named at h))
  where
    go : (s : Shorter ds gone rest) → (o : Option ℕ)
        → shifted_index (items_length ds) (Some s.index) o ≡ Some k
        → element s.items t o ≡ ok_or (item_at ds k) Missing
    go s None e = cc
    go s (Some j) e =
        let moved = shifts (items_length ds) s.index j k e in
        ap (λ o. ok_or o Missing) (item_at-drop_behind ds s.index j s.items moved.0 s.gone
        ∙ ap (item_at ds) (sym moved.1))
steps_behind _ gone t k rest h dropped = cc

pub steps_beside : (d : Document) (gone t : Token) (rest : Document) → shifted d gone t ≡ None
    → bytes_eq gone t ≡ false → drop_child gone d ≡ Ok rest → step rest t ≡ step d t
steps_beside (list ds) gone t rest h other dropped =
    let s = shorter ds gone rest dropped in
    rw s.is (go s (index_of t) (rw s.named at h))
  where
    go : (s : Shorter ds gone rest) → (o : Option ℕ)
        → shifted_index (items_length ds) (Some s.index) o ≡ None
        → element s.items t o ≡ element ds t o
    go s None e = refl
    go s (Some j) e = ap (λ o. ok_or o Missing) (stays_put ds s.items s.index j s.gone e)
steps_beside (object ms) gone t rest h other dropped =
    let s = fewer ms gone rest dropped in
    rw (s.is, member_at-drop_other ms gone t s.members other s.gone) refl
steps_beside _ gone t rest h other dropped = cc

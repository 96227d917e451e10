-- An act leaves the children of a container that it doesn't touch.
use Rattle.std.proofs.Common.{◌≡◌, ℕ, ◌<◌, Bool, true, false, Option, Some, None, Ok, refl, subst}
use Rattle.std.proofs.Common.{bytes_eq, ok_or, arith, nat_le, ◌^◌, ◌-◌, min, option_map}
use Rattle.relay_tree.specs.Document.{Document, list, object, Items}
use Rattle.relay_tree.specs.Part.{item_at, insert_item, drop_item, put_member, drop_member}
use Rattle.relay_tree.proofs.Elements.{item_at-insert_below, item_at-drop_below}
use Rattle.relay_tree.proofs.Named.{member_at-put_other, member_at-drop_other}
use Rattle.relay_pointer.specs.Index.{Token, index_of, number_of}
use Rattle.relay_pointer.specs.Path.{with_child}
use Rattle.relay_patch.specs.declared.fault.Cause.TheVariants.{Missing, PastEnd}
use Rattle.relay_patch.specs.Walk.{then_do, element, step}
use Rattle.relay_patch.specs.Patch.{Act, insert_element, insert_child, drop_element, drop_child}
use Rattle.relay_patch.specs.Patch.{set_child}
use Rattle.relay_patch.specs.Change.{in_list, in_object}
use Rattle.relay_patch.proofs.Refusals.{then_ok, ok_or_some}
use Rattle.relay_patch.proofs.Parts.{step-with_other, at_index, place_in_at_index}
use Rattle.relay_translate.specs.Touch.{Apart, Reset, shifts, touch_last}

-- the act leaves the children that it doesn't touch
abbrev pub Leaves : Bool → Act → Type 0
Leaves is_item act = (t b : Token) (d d' : Document) → act t d ≡ Ok d'
    → touch_last is_item t b ≡ Apart → step d' b ≡ step d b

-- apart from a member means another token
pub apart_other : (t b : Token) → touch_last false t b ≡ Apart → bytes_eq t b ≡ false
apart_other t b h = go (bytes_eq t b) refl
  where
    go : (x : Bool) → bytes_eq t b ≡ x → bytes_eq t b ≡ false
    go true e = let k : Reset ≡ Apart = rw e at h in cc
    go false e = e

pub set_child_leaves : (v : Document) → Leaves false (set_child v)
set_child_leaves v t b d d' h k =
    let s = then_ok (step d t) (λ c. Ok (with_child d t v)) d' h in
    let is : d' ≡ with_child d t v = let e = s.2 in cc in
    rw is (step-with_other d t b v (apart_other t b k))

pub insert_in_object_leaves : (v : Document) → Leaves false (in_object (insert_child v))
insert_in_object_leaves v t b (object ms) d' h k =
    let is : d' ≡ object (put_member ms t v) = cc in
    rw (is, member_at-put_other ms t b v (apart_other t b k)) refl
insert_in_object_leaves v t b _ d' h k = cc

pub drop_in_object_leaves : Leaves false (in_object drop_child)
drop_in_object_leaves t b (object ms) d' h k =
    let s = then_ok (ok_or (drop_member ms t) Missing) (λ ns. Ok (object ns)) d' h in
    let is : d' ≡ object s.0 = let e = s.2 in cc in
    rw (is, member_at-drop_other ms t b s.0 (apart_other t b k) (ok_or_some _ _ _ s.1)) refl
drop_in_object_leaves t b _ d' h k = cc

-- an index that is apart from i is below i
below_shift : (i j : ℕ) → shifts (Some i) (Some j) ≡ Apart → j < i
below_shift i j h = go (nat_le i j) refl
  where
    go : (x : Bool) → nat_le i j ≡ x → j < i
    go true e = let k : Reset ≡ Apart = rw e at h in cc
    go false e = grind arith

same_element : (ds es : Items) (b : Token) (i : ℕ) (p : Option ℕ)
    → shifts (Some (min (2 ^ 64 - 1) i)) (option_map (min (2 ^ 64 - 1)) p) ≡ Apart
    → ((j : ℕ) → j < i → item_at es j ≡ item_at ds j) → element es b p ≡ element ds b p
same_element ds es b i None h same = refl
same_element ds es b i (Some j) h same =
    let less = below_shift (min (2 ^ 64 - 1) i) (min (2 ^ 64 - 1) j) h in
    rw (same j (omega (arith, less))) refl

pub insert_in_list_leaves : (v : Document) → Leaves true (in_list (insert_child v))
insert_in_list_leaves v t b (list ds) d' h k =
    let a = at_index (insert_child v) t (list ds) d' (index_of t) h in
    let done : then_do (ok_or (insert_item ds a.0 v) PastEnd) (λ es. Ok (list es)) ≡ Ok d' =
    subst (λ o. insert_element v ds o ≡ Ok d') (place_in_at_index ds t a.0 a.1) a.2 in
    let s = then_ok (ok_or (insert_item ds a.0 v) PastEnd) (λ es. Ok (list es)) d' done in
    let apart : shifts (Some (min (2 ^ 64 - 1) a.0)) (number_of b) ≡ Apart =
    subst (λ o. shifts (option_map (min (2 ^ 64 - 1)) o) (number_of b) ≡ Apart) a.1 k in
    let is : d' ≡ list s.0 = let e = s.2 in cc in
    rw is (same_element ds s.0 b a.0 (index_of b) apart
    (λ j l. item_at-insert_below ds a.0 j v s.0 l (ok_or_some _ _ _ s.1)))
insert_in_list_leaves v t b _ d' h k = cc

pub drop_in_list_leaves : Leaves true (in_list drop_child)
drop_in_list_leaves t b (list ds) d' h k =
    let a = at_index drop_child t (list ds) d' (index_of t) h in
    let done : then_do (ok_or (drop_item ds a.0) Missing) (λ es. Ok (list es)) ≡ Ok d' =
    subst (λ o. drop_element ds t o ≡ Ok d') a.1 a.2 in
    let s = then_ok (ok_or (drop_item ds a.0) Missing) (λ es. Ok (list es)) d' done in
    let apart : shifts (Some (min (2 ^ 64 - 1) a.0)) (number_of b) ≡ Apart =
    subst (λ o. shifts (option_map (min (2 ^ 64 - 1)) o) (number_of b) ≡ Apart) a.1 k in
    let is : d' ≡ list s.0 = let e = s.2 in cc in
    rw is (same_element ds s.0 b a.0 (index_of b) apart
    (λ j l. item_at-drop_below ds a.0 j s.0 l (ok_or_some _ _ _ s.1)))
drop_in_list_leaves t b _ d' h k = cc

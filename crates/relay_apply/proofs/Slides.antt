-- An element that slides within its list, past one neighbour at a time: this equals its removal and
-- insertion, it is the move, and the element slides back.
use Rattle.std.proofs.Common.{◌≡◌, ℕ, zero, suc, List, length, get_or, set, ◌≤◌, [], ◌∷◌, ◌++◌}
use Rattle.std.proofs.Common.{Bool, true, ◌&&◌, Option, Some, None, ok_or, Ok, String, Global, refl}
use Rattle.std.proofs.Common.{sym, ap, subst, ◌∙◌, ◌<◌, ◌^◌, max, arith, option_and_then}
use Rattle.std.specs.List.{insert, remove, swap}
use Rattle.std.proofs.lemmas.List.{get_or_default}
use Rattle.std.proofs.lemmas.List.Edits.{swap_is, length-insert, length-remove}
use Rattle.std.proofs.lemmas.Option.{slice_get_read}
use Rattle.relay_tree.specs.Document.{Document, null, list, Items, items_of}
use Rattle.relay_tree.specs.Part.{items_length, item_at, insert_item, drop_item}
use Rattle.relay_tree.proofs.Elements.{slice_get-items_of, insert_item-items_of, drop_item-items_of}
use Rattle.relay_tree.proofs.Elements.{insert_item-none, drop_item-shorter, drop_item-insert}
use Rattle.relay_tree.proofs.Elements.{item_at-insert_same}
use Rattle.relay_pointer.specs.Index.{Token, index_of}
use Rattle.relay_pointer.specs.Path.{Path, path_of, at, put}
use Rattle.relay_pointer.proofs.Prefixes.{equal_paths}
use Rattle.relay_pointer.proofs.Puts.{put-back, at-put}
use Rattle.relay_patch.specs.Walk.{walk}
use Rattle.relay_patch.specs.declared.fault.Cause.TheVariants.{PastEnd}
use Rattle.relay_patch.specs.Place.{parent, last, front, last_of, beside, in_one_list}
use Rattle.relay_patch.specs.declared.change.Place.{Place}
use Rattle.relay_patch.specs.Patch.{at_path, insert_child, drop_child, replaced}
use Rattle.relay_patch.specs.Change.{Moves, in_list, placed, inserted_at}
use Rattle.relay_apply.specs.Undo.{or_items, slid_items, slid, with_part}
use Rattle.relay_patch.proofs.Refusals.{then_ok, ok_or_some}
use Rattle.relay_patch.proofs.Parts.{at_index, place_in_at_index}
use Rattle.relay_patch.proofs.Walks.{at_reached}
use Rattle.relay_patch.proofs.Sites.{parent-last}
use Rattle.relay_patch.proofs.Exchanges.{at_end, replaced-is, replaced-twice, walk-replaced}
use Rattle.relay_apply.proofs.Reinserted.{insert_item-drop, taken}

-- Items.

-- if either place is past the end, nothing slides
pub slides_nowhere : (ds : Items) (i j : ℕ) → items_length ds ≤ max i j → slid_items i j ds ≡ ds
slides_nowhere ds i j h = go (item_at ds i) (drop_item ds i) refl
  where
    go : (o : Option Document) (r : Option Items) → drop_item ds i ≡ r
        → or_items (option_and_then (λ e. option_and_then (λ es. insert_item es j e) r) o) ds ≡ ds
    go None r f = refl
    go (Some e) None f = refl
    go (Some e) (Some es) f =
        let s = drop_item-shorter ds i es f in
        rw (insert_item-none es j e (omega (arith, h, s.0, s.1))) refl

-- if both places exist, the result is the others with the element inserted
slides_there : (ds es fs : Items) (i j : ℕ) (e : Document) → item_at ds i ≡ Some e
    → drop_item ds i ≡ Some es → insert_item es j e ≡ Some fs → slid_items i j ds ≡ fs
slides_there ds es fs i j e there rest came = rw (there, rest, came) refl

-- the elements after the i-th was moved to the place j
abbrev pub moved : List Document → ℕ → ℕ → List Document
moved xs i j = insert (remove xs i) j (get_or xs i null)

pub slides : (xs : List Document) (i j : ℕ) → i < length xs → j < length xs
    → items_of (moved xs i j) ≡ slid_items i j (items_of xs)
slides xs i j there within =
    let e = get_or xs i null in
    let stands : item_at (items_of xs) i ≡ Some e =
    sym (slice_get-items_of xs i)
    ∙ slice_get_read xs (length xs) i e refl there (get_or_default xs i null e there) in
    let room : j ≤ length (remove xs i) = omega (arith, length-remove xs i there) in
    sym (slides_there (items_of xs) (items_of (remove xs i)) (items_of (moved xs i j)) i j e stands
    (drop_item-items_of xs i there) (insert_item-items_of (remove xs i) j e room))

-- Exchanges with a neighbour.

-- the list with the k-th element and the next one exchanged
abbrev crossed : List Document → ℕ → List Document
crossed xs k = set (set xs k (get_or xs (suc k) null)) (suc k) (get_or xs k null)

crossed_up : (xs : List Document) (k : ℕ) (e : Document) → k < length xs
    → crossed (insert xs k e) k ≡ insert xs (suc k) e
crossed_up [] k e h = absurd (omega arith)
crossed_up (x ∷ xs) zero e h = refl
crossed_up (x ∷ xs) (suc k) e h = ap (λ ys. x ∷ ys) (crossed_up xs k e (omega arith))

crossed_down : (xs : List Document) (k : ℕ) (e : Document) → k < length xs
    → crossed (insert xs (suc k) e) k ≡ insert xs k e
crossed_down [] k e h = absurd (omega arith)
crossed_down (x ∷ xs) zero e h = refl
crossed_down (x ∷ xs) (suc k) e h = ap (λ ys. x ∷ ys) (crossed_down xs k e (omega arith))

length-moved : (xs : List Document) (i j : ℕ) → i < length xs → j < length xs
    → length (moved xs i j) ≡ length xs
length-moved xs i j there within =
    let left = length-remove xs i there in
    let whole = length-insert (remove xs i) j (get_or xs i null) (omega (arith, left)) in
    omega (arith, left, whole)

module _ (xs : List Document) (i k : ℕ) (there : i < length xs) (within : suc k < length xs) where
  pub moved_up : swap (moved xs i k) k (suc k) ≡ moved xs i (suc k)
  moved_up =
      let long = length-moved xs i k there (omega arith) in
      let left = length-remove xs i there in
      sym (swap_is (moved xs i k) k (suc k) null (omega (arith, long)) (omega (arith, long)))
      ∙ crossed_up (remove xs i) k (get_or xs i null) (omega (arith, left))

  pub moved_down : swap (moved xs i (suc k)) k (suc k) ≡ moved xs i k
  moved_down =
      let long = length-moved xs i (suc k) there within in
      let left = length-remove xs i there in
      sym (swap_is (moved xs i (suc k)) k (suc k) null (omega (arith, long)) (omega (arith, long)))
      ∙ crossed_down (remove xs i) k (get_or xs i null) (omega (arith, left))

-- A move within one list.

-- the list in which an element moves from one place to another
record Slide (p q : Path) (d n : Document) : Type 0 where
  items : Items
  later : Items
  low : ℕ
  high : ℕ
  named : index_of (last_of p) ≡ Some low
  resolved : index_of (last_of q) ≡ Some high
  inside : low < items_length items
  within : high < items_length items
  there : at d (front p) ≡ Some (list items)
  new : n ≡ put d (front p) (list later)
  slides : slid_items low high items ≡ later
  back : slid_items high low later ≡ items

-- where an element is inserted in a list
record Inserts (before : Path) (u : Token) (b v n : Document) (es : Items) : Type 0 where
  index : ℕ
  later : Items
  named : index_of u ≡ Some index
  came : insert_item es index v ≡ Some later
  new : replaced before (list later) b ≡ Ok n

inserts_at : (before : Path) (u : Token) (b v n : Document) (es : Items) (c : Document) (i : ℕ)
    → index_of u ≡ Some i → insert_child v u (list es) ≡ Ok c → replaced before c b ≡ Ok n
    → Inserts before u b v n es
inserts_at before u b v n es c i named h new =
    let s = then_ok (ok_or (insert_item es i v) PastEnd) (λ fs.
    Ok (list fs)) c (rw (place_in_at_index es u i named) at h) in
    let whole : Ok (list s.0) ≡ Ok c = s.2 in
    let is : c ≡ list s.0 = cc in
    record {
      index = i;
      later = s.0;
      named = named;
      came = ok_or_some (insert_item es i v) PastEnd s.0 s.1;
      new = rw is at new;
    }

inserts : (before : Path) (u : Token) (b v n : Document) (es : Items)
    → walk b before ≡ Ok (list es) → at_path (in_list (insert_child v)) (before ++ u ∷ []) b ≡ Ok n
    → Inserts before u b v n es
inserts before u b v n es there h =
    let k = rw there at (sym (at_end (in_list (insert_child v)) before u b) ∙ h) in
    let a = then_ok (in_list (insert_child v) u (list es)) (λ c. replaced before c b) n k in
    let i = at_index (insert_child v) u (list es) a.0 (index_of u) a.1 in
    inserts_at before u b v n es a.0 i.0 i.1 i.2 a.2

slide_at : (t u : Token) (p q : Path) (d b v n : Document) → parent t p ≡ parent u q
    → at_path (in_list drop_child) (t ∷ p) d ≡ Ok b → walk d (t ∷ p) ≡ Ok v
    → at_path (in_list (insert_child v)) (u ∷ q) b ≡ Ok n → Slide (t ∷ p) (u ∷ q) d n
slide_at t u p q d b v n same went there came =
    let before = parent t p in
    let from = parent-last t p in
    let to : before ++ last u q ∷ [] ≡ u ∷ q = rw same (parent-last u q) in
    let x =
    taken before (last t p) d b v (subst (λ z.
    at_path (in_list drop_child) z d ≡ Ok b) (sym from) went) (subst (λ z.
    walk d z ≡ Ok v) (sym from) there) in
    let i =
    inserts before (last u q) b v n x.rest (walk-replaced before (list x.rest) d b x.new)
    (subst (λ z. at_path (in_list (insert_child v)) z b ≡ Ok n) (sym to) came) in
    let r =
    replaced-is before (list i.later) d n
    (replaced-twice before (list x.rest) (list i.later) d b n x.new i.new) in
    let taken_out = drop_item-shorter x.items x.index x.rest x.went in
    let again = drop_item-insert x.rest i.index v i.later i.came in
    let put_in = drop_item-shorter i.later i.index x.rest again in
    let high = put_in.1 in
    let stands : item_at i.later i.index ≡ Some v =
    item_at-insert_same x.rest i.index v i.later i.came in
    record {
      items = x.items;
      later = i.later;
      low = x.index;
      high = i.index;
      named = x.named;
      resolved = i.named;
      inside = taken_out.1;
      within = omega (arith, taken_out.0, put_in.0, high);
      there = at_reached before d (list x.items) x.there;
      new = r.2;
      slides = slides_there x.items x.rest i.later x.index i.index v x.was x.went i.came;
      back =
          slides_there i.later x.rest x.items i.index x.index v stands again
          (insert_item-drop x.items x.index v x.rest x.was x.went);
    }

slide_of : (x y : Bool) (p q : Path) (d b v n : Document) → (x && y && beside p q) ≡ true
    → at_path (placed x drop_child) p d ≡ Ok b → walk d p ≡ Ok v → inserted_at y q v b ≡ Ok n
    → Slide p q d n
slide_of true true (t ∷ p) (u ∷ q) d b v n one went there came =
    slide_at t u p q d b v n (equal_paths (parent t p) (parent u q) one) went there came
slide_of _ _ _ _ d b v n one went there came = cc

-- the index of a place, if it fits in 64 bits
abbrev pub Reads : Path → ℕ → Type 0
Reads p a = (i : ℕ) → index_of (last_of p) ≡ Some i → i < 2 ^ 64 → a ≡ i

-- an element that slides is moved, and slides back
pub slides_so : (from to : Place) (d v n e : Document) (path : Path) (a b : ℕ)
    → in_one_list from to ≡ true → Moves d from to v n → path ≡ front from.path → Reads from.path a
    → Reads to.path b → ((ds : Items) → at d path ≡ Some (list ds) → items_length ds < 2 ^ 64)
    → e ≡ with_part (slid a b) path (at d path) d
    → (e ≡ n) × (with_part (slid b a) path (at e path) e ≡ d)
slides_so from to d v n e path a b one m here low high few made =
    go (slide_of from.item to.item from.path to.path d m.between v n one m.went m.there m.came)
  where
    go : Slide from.path to.path d n → (e ≡ n) × (with_part (slid b a) path (at e path) e ≡ d)
    go s =
        let there : at d path ≡ Some (list s.items) = ap (at d) here ∙ s.there in
        let count = few s.items there in
        let first : a ≡ s.low = low s.low s.named (omega (arith, count, s.inside)) in
        let second : b ≡ s.high = high s.high s.resolved (omega (arith, count, s.within)) in
        let new : e ≡ put d path (list s.later) = made ∙ rw (there, first, second, s.slides) refl in
        let old : with_part (slid b a) path (at e path) e ≡ d =
        rw (
          new,
          at-put d path (list s.items) (list s.later) there,
          first,
          second,
          s.back,
        ) (put-back d path (list s.items) (list s.later) there) in
        (new ∙ rw here (sym s.new), old)

-- Empty paths.

no_index : (i : ℕ) → index_of [] ≡ Some i → ⊥
unfolding index_of
no_index i h = cc

pub no_last : (ts : List (String Global)) (i : ℕ) → length ts < 1
    → index_of (last_of (path_of ts)) ≡ Some i → ⊥
no_last [] i few h = no_index i h
no_last (t ∷ ts) i few h = absurd (omega arith)

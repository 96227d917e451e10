-- The paths and values of a change occur in the document before or after it, so they are within the
-- depth of these.
use Rattle.std.proofs.Common.{◌≡◌, ℕ, suc, ◌-◌, ◌^◌, ◌<◌, ◌≤◌, min, List, [], ◌∷◌, ◌++◌, Bool, true}
use Rattle.std.proofs.Common.{false, Option, Some, None, ok_or, Ok, Err, refl, sym, ap, subst, ◌∙◌}
use Rattle.std.proofs.Common.{nat_lt, if◌then◌else◌, arith}
use Rattle.std.specs.Bool.{⊤}
use Rattle.std.specs.List.{AllByRecursion}
use Rattle.std.specs.Result.{result_ok}
use Rattle.std.proofs.lemmas.Bool.Decides.{nat_tests}
use Rattle.relay_tree.specs.Document.{Document, list, object, Items, depth, weight}
use Rattle.relay_tree.specs.Part.{insert_item, put_member}
use Rattle.relay_tree.proofs.Named.{member_at-put_same}
use Rattle.relay_pointer.specs.Index.{Token, index_of}
use Rattle.relay_pointer.specs.Path.{Path, at, same_path}
use Rattle.relay_patch.specs.declared.change.Change.TheVariants as change
use Rattle.relay_patch.specs.Walk.{PastEnd, TooDeep, TooHeavy, step, walk}
use Rattle.relay_patch.specs.Place.{Place, parent, last, place_of}
use Rattle.relay_patch.specs.Patch.{Bounds, Op, Move, Copy, at_path, insert_child, insert_element}
use Rattle.relay_patch.specs.Patch.{drop_child, exceeds, within}
use Rattle.relay_patch.specs.After.{spent_after, performed, after_from}
use Rattle.relay_patch.specs.Change.{Change, Makes, Leads, in_list, in_object, placed, inserted}
use Rattle.relay_patch.specs.Change.{inserted_at, moved_changes, copied_changes, changes_of}
use Rattle.relay_patch.specs.Change.{all_changes}
use Rattle.relay_patch.specs.Sizes.{ChangeFits}
use Rattle.relay_patch.proofs.Refusals.{then_ok, then_itself, ok_or_some, not_refused}
use Rattle.relay_patch.proofs.Parts.{at_index, place_in_at_index}
use Rattle.relay_patch.proofs.Sites.{site, parent-last}
use Rattle.relay_patch.proofs.Walks.{walk-append}
use Rattle.relay_patch.proofs.Depths.{walk_depth}
use Rattle.relay_patch.proofs.Exchanges.{walk-replaced}
use Rattle.relay_patch.proofs.Acts.{droppable}
use Rattle.relay_patch.proofs.Carried.{placed_act}
use Rattle.relay_patch.proofs.Passed.{went_on, within_same, performed_is}
use Rattle.relay_patch.proofs.Made.{effect_leads}
use Rattle.relay_tree.proofs.Outcomes.{is_ok_then, some_ok}
use Rattle.relay_tree.proofs.Elements.{item_at-insert_same}

-- An inserted value is there.

element_stands : (v : Document) (t : Token) (ds es : Items) (i : ℕ) (c' : Document)
    → index_of t ≡ Some i → insert_item ds i v ≡ Some es → c' ≡ list es → step c' t ≡ Ok v
element_stands v t ds es i c' named inserted is =
    rw (is, named, item_at-insert_same ds i v es inserted) refl

stands_in_list : (v : Document) (t : Token) (c c' : Document) → in_list (insert_child v) t c ≡ Ok c'
    → step c' t ≡ Ok v
stands_in_list v t (list ds) c' h =
    let a = at_index (insert_child v) t (list ds) c' (index_of t) h in
    let done : insert_element v ds (Some a.0) ≡ Ok c' =
    subst (λ o. insert_element v ds o ≡ Ok c') (place_in_at_index ds t a.0 a.1) a.2 in
    let s = then_ok (ok_or (insert_item ds a.0 v) PastEnd) (λ es. Ok (list es)) c' done in
    let k : Ok (list s.0) ≡ Ok c' = s.2 in
    let is : c' ≡ list s.0 = cc in
    element_stands v t ds s.0 a.0 c' a.1 (ok_or_some _ _ _ s.1) is
stands_in_list v t _ c' h = cc

stands_in_object : (v : Document) (t : Token) (c c' : Document)
    → in_object (insert_child v) t c ≡ Ok c' → step c' t ≡ Ok v
stands_in_object v t (object ms) c' h = let is : c' ≡ object (put_member ms t v) = cc in
    rw (is, member_at-put_same ms t v) refl
stands_in_object v t _ c' h = cc

stands : (b : Bool) (v : Document) (t : Token) (c c' : Document)
    → placed b (insert_child v) t c ≡ Ok c' → step c' t ≡ Ok v
stands true v = stands_in_list v
stands false v = stands_in_object v

pub stands_at : (b : Bool) (v : Document) (path : Path) (d e : Document)
    → at_path (placed b (insert_child v)) path d ≡ Ok e → walk e path ≡ Ok v
stands_at b v [] d e h = cc
stands_at b v (t ∷ path) d e h =
    let s = site (placed b (insert_child v)) t path d e h in
    subst (λ p. walk e p ≡ Ok v) (parent-last t path)
    (walk-append (parent t path) (last t path ∷ []) e
    ∙ rw s.stands
    (then_itself (step s.later (last t path))
    ∙ stands b v (last t path) s.container s.later s.acted))

pub inserted_stands : (b : Bool) (path : Path) (v d e : Document) → inserted_at b path v d ≡ Ok e
    → walk e path ≡ Ok v
inserted_stands true path v d e h = stands_at true v path d e h
inserted_stands false [] v d e h = sym h
inserted_stands false (t ∷ path) v d e h = stands_at false v (t ∷ path) d e h

-- A removed value was there.
pub stood_at : (b : Bool) (path : Path) (d e : Document)
    → at_path (placed b drop_child) path d ≡ Ok e → (v : Document) × (walk d path ≡ Ok v)
stood_at b [] d e h = cc
stood_at b (t ∷ path) d e h =
    let s = site (placed b drop_child) t path d e h in
    let there = some_ok _
    (droppable s.container (last t path)
    (is_ok_then _ s.later
    (placed_act b drop_child (last t path) s.container s.later s.acted))) in (
      there.0,
      subst (λ p. walk d p ≡ Ok there.0) (parent-last t path)
          (walk-append (parent t path) (last t path ∷ []) d
          ∙ rw s.there (then_itself (step s.container (last t path)) ∙ there.1)),
    )

-- One change.

pub makes_fit : (c : Change) (most : ℕ) (d e : Document) → Makes d c e → depth d ≤ most
    → depth e ≤ most → ChangeFits most most c
makes_fit (change.Set path v) most d e m before later =
    let k = walk_depth path e v (walk-replaced path v d e m) in (omega (arith, k), omega (arith, k))
makes_fit (change.AddMember path v) most d e m before later =
    let k = walk_depth path e v (stands_at false v path d e m.1) in
    (omega (arith, k), omega (arith, k))
makes_fit (change.AddItem path v) most d e m before later =
    let k = walk_depth path e v (stands_at true v path d e m) in
    (omega (arith, k), omega (arith, k))
makes_fit (change.DropMember path) most d e m before later = let s = stood_at false path d e m in
    let k = walk_depth path d s.0 s.1 in omega (arith, k)
makes_fit (change.DropItem path) most d e m before later = let s = stood_at true path d e m in
    let k = walk_depth path d s.0 s.1 in omega (arith, k)
makes_fit (change.Move from to v) most d e m before later =
    let k = walk_depth from.path d v m.there in (
      omega (arith, k),
      omega (
        arith,
        walk_depth to.path e v (inserted_stands to.item to.path v m.between e m.came),
      ),
      omega (arith, k),
    )
makes_fit (change.Copy from to v) most d e m before later =
    let k = walk_depth from d v m.0 in (
      omega (arith, k),
      omega (arith, walk_depth to.path e v (inserted_stands to.item to.path v d e m.1)),
      omega (arith, k),
    )

-- An operation makes one change at most.

abbrev AtMostOne : List Change → Type 0
AtMostOne (c ∷ e ∷ cs) = ⊥
AtMostOne _ = ⊤

moved_one : (from : Place) (path : Path) (v e : Option Document)
    → AtMostOne (moved_changes from path v e)
moved_one from path (Some v) (Some e) = go (same_path from.path (place_of e path).path)
  where
    go : (x : Bool) → AtMostOne (if x then [] else change.Move from (place_of e path) v ∷ [])
    go true = tt
    go false = tt
moved_one from path _ _ = tt

copied_one : (from : Path) (to : Place) (v : Option Document) → AtMostOne (copied_changes from to v)
copied_one from to None = tt
copied_one from to (Some v) = tt

one_change : (d : Document) (op : Op) → AtMostOne (changes_of d op)
one_change d (Move from path) =
    moved_one (place_of d from) path (at d from) (result_ok (at_path drop_child from d))
one_change d (Copy from path) = copied_one from (place_of d path) (at d from)
one_change d _ = tt

leads_fit : (cs : List Change) (most : ℕ) (d e : Document) → AtMostOne cs → Leads d cs e
    → depth d ≤ most → depth e ≤ most → AllByRecursion (ChangeFits most most) cs
leads_fit [] most d e one h before later = tt
leads_fit (c ∷ []) most d e one h before later =
    (makes_fit c most d h.0 h.1 before (let same = ap depth h.2 in omega (arith, same, later)), tt)
leads_fit (c ∷ x ∷ cs) most d e one h before later = absurd one

-- All changes.

All-append : (most : ℕ) (a b : List Change) → AllByRecursion (ChangeFits most most) a
    → AllByRecursion (ChangeFits most most) b → AllByRecursion (ChangeFits most most) (a ++ b)
All-append most [] b h k = k
All-append most (c ∷ a) b h k = (h.0, All-append most a b h.1 k)

-- a bound below 2 ^ 64 - 1 holds of the depth itself
pub within_flat : (bounds : Bounds) (d e : Document) → bounds.depth < 2 ^ 64 - 1
    → within bounds d ≡ Ok e → depth e ≤ bounds.depth
within_flat bounds d e small h =
    let a = not_refused (exceeds bounds.depth (depth d)) TooDeep
    (if exceeds bounds.weight (weight d) then Err TooHeavy else Ok d) e h in
    let test : nat_lt bounds.depth (min (depth d) (2 ^ 64 - 1)) ≡ false = a.0 in
    let flat : min (depth d) (2 ^ 64 - 1) ≤ bounds.depth = grind (arith, nat_tests) in
    omega (arith, flat, small, ap depth (within_same bounds d e h))

pub after_fits : (ops : List Op) (n spent : ℕ) (bounds : Bounds) (d d' : Document)
    → bounds.depth < 2 ^ 64 - 1 → depth d ≤ bounds.depth → after_from n spent bounds d ops ≡ Ok d'
    → AllByRecursion (ChangeFits bounds.depth bounds.depth) (all_changes d ops)
after_fits [] n spent bounds d d' small flat h = tt
after_fits (op ∷ ops) n spent bounds d d' small flat h =
    let now = spent_after spent d op in
    let s = went_on n (performed bounds spent d op)
    (λ e. after_from (suc n) now bounds e ops) d' h in
    let p = performed_is bounds spent d s.0 op s.1 in
    let later = within_flat bounds s.0 s.0 small p.1 in
    rw p.0 (All-append bounds.depth (changes_of d op) (all_changes s.0 ops)
    (leads_fit (changes_of d op) bounds.depth d s.0 (one_change d op)
    (effect_leads op d s.0 p.0) flat later)
    (after_fits ops (suc n) now bounds s.0 d' small later s.2))

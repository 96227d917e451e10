-- The changes of an accepted operation lead from the document before it to the one after it.
use Rattle.std.proofs.Common.{◌≡◌, ℕ, suc, List, [], ◌∷◌, ◌++◌, Bool, true, false, Option, Some}
use Rattle.std.proofs.Common.{None, Ok, Err, refl, sym, ap, subst, ◌∙◌, bytes_eq, if◌then◌else◌}
use Rattle.std.proofs.Common.{is_some}
use Rattle.std.specs.Result.{result_ok}
use Rattle.relay_patch.specs.declared.change.Change.TheVariants as change
use Rattle.relay_tree.specs.Document.{Document, list, object, Items, Members}
use Rattle.relay_tree.specs.Part.{items_length, member_at, set_member}
use Rattle.relay_tree.specs.Same.{same}
use Rattle.relay_pointer.specs.Index.{Token, index_of}
use Rattle.relay_pointer.specs.Path.{Path, at, is_proper_prefix, same_path}
use Rattle.relay_patch.specs.Walk.{Missing, IntoItself, TestFailed, step, walk, dash}
use Rattle.relay_patch.specs.Place.{Place, parent, last, canonical, place_within, place_of}
use Rattle.relay_patch.specs.Patch.{Bounds, Act, below, at_path, place_in, insert_child}
use Rattle.relay_patch.specs.Patch.{insert_element, drop_child, drop_element, set_child, added}
use Rattle.relay_patch.specs.Patch.{effect, Op, Add, Remove, Replace, Move, Copy, Test}
use Rattle.relay_patch.specs.Change.{Change, Makes, Moves, Leads, in_list, in_object, placed}
use Rattle.relay_patch.specs.Change.{dropped, inserted, inserted_at, added_change, removed_change}
use Rattle.relay_patch.specs.Change.{changes_of, all_changes}
use Rattle.relay_patch.specs.After.{performed, spent_after, after_from, IsLed}
use Rattle.relay_patch.proofs.Refusals.{then_ok, then_itself, ok_or_found, not_refused}
use Rattle.relay_patch.proofs.Passed.{went_on, performed_is}
use Rattle.relay_pointer.proofs.Indexes.{index_of-index_text}
use Rattle.relay_patch.proofs.Walks.{at-walk, at_reached, walk-append}
use Rattle.relay_patch.proofs.Parts.{no_dash, place_in_at_index}
use Rattle.relay_patch.proofs.Sites.{site, parent-last}
use Rattle.relay_patch.proofs.Moved.{did_move, DidMove}
use Rattle.relay_pointer.proofs.Prefixes.{proper_prefix_last}

index_of-canonical : (ds : Items) (t : Token) → index_of (canonical ds t) ≡ place_in ds t
index_of-canonical ds t = go (bytes_eq t dash) refl
  where
    go : (x : Bool) → bytes_eq t dash ≡ x → index_of (canonical ds t) ≡ place_in ds t
    go true e = rw e (index_of-index_text (items_length ds))
    go false e = rw e refl

some_place : (v : Document) (ds : Items) (o : Option ℕ) (d : Document)
    → insert_element v ds o ≡ Ok d → (i : ℕ) × (o ≡ Some i)
some_place v ds None d h = cc
some_place v ds (Some i) d h = (i, refl)

-- an insertion into a list is an insertion at the canonical index
insert_canonical : (v : Document) (ds : Items) (t : Token) (d : Document)
    → insert_child v t (list ds) ≡ Ok d → in_list (insert_child v) (canonical ds t) (list ds) ≡ Ok d
insert_canonical v ds t d h =
    let s = some_place v ds (place_in ds t) d h in
    let index : index_of (canonical ds t) ≡ Some s.0 = index_of-canonical ds t ∙ s.1 in
    let place : place_in ds (canonical ds t) ≡ Some s.0 =
    place_in_at_index ds (canonical ds t) s.0 index in
    let done : insert_element v ds (Some s.0) ≡ Ok d =
    subst (λ o. insert_element v ds o ≡ Ok d) s.1 h in
    rw (index, place) done

inserted_plain : (v d d' : Document) (t : Token) (path : Path)
    → at_path (in_object (insert_child v)) (parent t path ++ last t path ∷ []) d ≡ Ok d'
    → inserted_at false (parent t path ++ last t path ∷ []) v d ≡ Ok d'
inserted_plain v d d' t path h = rw (parent-last t path) (rw (parent-last t path) at h)

insert_at_site : (v d d' : Document) (t : Token) (path : Path) (c later : Document)
    → insert_child v (last t path) c ≡ Ok later
    → ((other : Act) (u : Token) → other u c ≡ Ok later
    → at_path other (parent t path ++ u ∷ []) d ≡ Ok d')
    → inserted (place_within (Some c) (parent t path) (last t path)) v d ≡ Ok d'
insert_at_site v d d' t path (list ds) later h alike =
    alike (in_list (insert_child v)) (canonical ds (last t path))
    (insert_canonical v ds (last t path) later h)
insert_at_site v d d' t path (object ms) later h alike =
    inserted_plain v d d' t path (alike (in_object (insert_child v)) (last t path) h)
insert_at_site v d d' t path _ later h alike = cc

pub inserted-added : (path : Path) (v d d' : Document) → added path v d ≡ Ok d'
    → inserted (place_of d path) v d ≡ Ok d'
inserted-added [] v d d' h = h
inserted-added (t ∷ path) v d d' h =
    let s = site (insert_child v) t path d d' h in
    rw (at_reached (parent t path) d s.container s.there)
    (insert_at_site v d d' t path s.container s.later s.acted s.alike)

some_index : (ds : Items) (t : Token) (o : Option ℕ) (d : Document) → drop_element ds t o ≡ Ok d
    → (i : ℕ) × (o ≡ Some i)
some_index ds t None d h = cc
some_index ds t (Some i) d h = (i, refl)

drop_in_list : (ds : Items) (t : Token) (d : Document) → drop_child t (list ds) ≡ Ok d
    → in_list drop_child t (list ds) ≡ Ok d
drop_in_list ds t d h = let s = some_index ds t (index_of t) d h in rw s.1 h

canonical_index : (ds : Items) (t : Token) (d : Document) → drop_child t (list ds) ≡ Ok d
    → canonical ds t ≡ t
canonical_index ds t d h = let s = some_index ds t (index_of t) d h in rw (no_dash t s.0 s.1) refl

-- a part that is dropped is at a canonical path
pub record DropsAt (place : Place) (path : Path) (d d' : Document) : Type 0 where
  pub plain : place.path ≡ path
  pub gone : dropped place d ≡ Ok d'

drop_at_site : (d d' : Document) (t : Token) (path : Path) (c later : Document)
    → drop_child (last t path) c ≡ Ok later
    → ((other : Act) (u : Token) → other u c ≡ Ok later
    → at_path other (parent t path ++ u ∷ []) d ≡ Ok d')
    → DropsAt (place_within (Some c) (parent t path) (last t path)) (t ∷ path) d d'
drop_at_site d d' t path (list ds) later h alike =
    let plain : canonical ds (last t path) ≡ last t path =
    canonical_index ds (last t path) later h in
    record {
      plain = rw plain (parent-last t path);
      gone = rw plain
          (alike (in_list drop_child) (last t path) (drop_in_list ds (last t path) later h));
    }
drop_at_site d d' t path (object ms) later h alike =
    record { plain = parent-last t path; gone = alike (in_object drop_child) (last t path) h }
drop_at_site d d' t path _ later h alike = cc

pub drops_at : (t : Token) (path : Path) (d d' : Document) → below drop_child t path d ≡ Ok d'
    → DropsAt (place_of d (t ∷ path)) (t ∷ path) d d'
drops_at t path d d' h =
    let s = site drop_child t path d d' h in
    rw (at_reached (parent t path) d s.container s.there)
    (drop_at_site d d' t path s.container s.later s.acted s.alike)

-- the operations

remove_leads : (x : Bool) (p : Path) (d d' : Document) → at_path (placed x drop_child) p d ≡ Ok d'
    → Makes d (removed_change (record { path = p; item = x })) d'
remove_leads true p d d' h = h
remove_leads false p d d' h = h

pub at_last : (d c : Document) (t : Token) (path : Path) → walk d (parent t path) ≡ Ok c
    → at d (t ∷ path) ≡ result_ok (step c (last t path))
at_last d c t path h =
    ap (at d) (sym (parent-last t path))
    ∙ (sym (at-walk (parent t path ++ last t path ∷ []) d)
    ∙ ap result_ok (walk-append (parent t path) (last t path ∷ []) d)
    ∙ rw h (ap result_ok (then_itself (step c (last t path)))))

-- an addition in an object that has or lacks a member of that name
add_in_object : (v d d' : Document) (t : Token) (path : Path) (ms : Members) (later : Document)
    (found : Option Document) → member_at ms (last t path) ≡ found → at d (t ∷ path) ≡ found
    → insert_child v (last t path) (object ms) ≡ Ok later
    → ((other : Act) (u : Token) → other u (object ms) ≡ Ok later
    → at_path other (parent t path ++ u ∷ []) d ≡ Ok d')
    → Makes d (if is_some (at d (t ∷ path)) then change.Set (t ∷ path) v
    else change.AddMember (t ∷ path) v) d'
add_in_object v d d' t path ms later None here there h alike =
    rw there (
      there,
      subst (λ p. at_path (in_object (insert_child v)) p d ≡ Ok d') (parent-last t path)
          (alike (in_object (insert_child v)) (last t path) h),
    )
add_in_object v d d' t path ms later (Some w) here there h alike =
    let set : Ok (object (set_member ms (last t path) v)) ≡ Ok later = rw here at h in
    rw there (subst (λ p. at_path (set_child v) p d ≡ Ok d') (parent-last t path)
    (alike (set_child v) (last t path) (rw here set)))

add_at_site : (v d d' : Document) (t : Token) (path : Path) (c later : Document)
    → at d (t ∷ path) ≡ result_ok (step c (last t path)) → insert_child v (last t path) c ≡ Ok later
    → ((other : Act) (u : Token) → other u c ≡ Ok later
    → at_path other (parent t path ++ u ∷ []) d ≡ Ok d')
    → Makes d (added_change d (t ∷ path) (place_within (Some c) (parent t path) (last t path)) v) d'
add_at_site v d d' t path (list ds) later found h alike =
    alike (in_list (insert_child v)) (canonical ds (last t path))
    (insert_canonical v ds (last t path) later h)
add_at_site v d d' t path (object ms) later found h alike =
    add_in_object v d d' t path ms later (member_at ms (last t path)) refl
    (found ∙ ok_or_found (member_at ms (last t path)) Missing) h alike
add_at_site v d d' t path _ later found h alike = cc

add_makes : (path : Path) (v d d' : Document) → added path v d ≡ Ok d'
    → Makes d (added_change d path (place_of d path) v) d'
add_makes [] v d d' h = h
add_makes (t ∷ path) v d d' h =
    let s = site (insert_child v) t path d d' h in
    let made = add_at_site v d d' t path s.container s.later
    (at_last d s.container t path s.there) s.acted s.alike in
    subst (λ o. Makes d
    (added_change d (t ∷ path) (place_within o (parent t path) (last t path)) v) d')
    (sym (at_reached (parent t path) d s.container s.there)) made

remove_makes : (path : Path) (d d' : Document) → at_path drop_child path d ≡ Ok d'
    → Makes d (removed_change (place_of d path)) d'
remove_makes [] d d' h = cc
remove_makes (t ∷ path) d d' h =
    remove_leads (place_of d (t ∷ path)).item (place_of d (t ∷ path)).path d d'
    (drops_at t path d d' h).gone

test_leads : (b : Bool) (d d' : Document) → (if b then Ok d else Err TestFailed) ≡ Ok d' → d ≡ d'
test_leads true d d' h = cc
test_leads false d d' h = cc

pub within_last : (o : Option Document) (before : Path) (t : Token)
    → (a : Token) × ((place_within o before t).path ≡ before ++ a ∷ [])
within_last (Some (list ds)) before t = (canonical ds t, refl)
within_last _ before t = (t, refl)

outside_place : (f path : Path) (d : Document) → is_proper_prefix f path ≡ false
    → is_proper_prefix f (place_of d path).path ≡ false
outside_place f [] d h = h
outside_place f (t ∷ path) d h =
    let w = within_last (at d (parent t path)) (parent t path) (last t path) in
    rw w.1 (proper_prefix_last f (parent t path) w.0 (last t path) ∙ rw (parent-last t path) h)

move_leads : (f : Token) (from path : Path) (d d' : Document) (x : Bool)
    → (m : DidMove f from path d d') → same_path (f ∷ from) (place_of m.between path).path ≡ x
    → Leads d (changes_of d (Move (f ∷ from) path)) d'
move_leads f from path d d' x m e =
    rw (at_reached (f ∷ from) d m.value m.there, m.went, drops.plain, e) (go x e)
  where
    drops : DropsAt (place_of d (f ∷ from)) (f ∷ from) d m.between
    drops = drops_at f from d m.between m.went

    go : (x : Bool) → same_path (f ∷ from) (place_of m.between path).path ≡ x
        → Leads d (if x then []
        else change.Move (place_of d (f ∷ from)) (place_of m.between path) m.value ∷ []) d'
    go true e = let stays : Ok d ≡ Ok d' = rw e at m.came in cc
    go false e =
        let came : added path m.value m.between ≡ Ok d' = rw e at m.came in
        let moves : Moves d (place_of d (f ∷ from)) (place_of m.between path) m.value d' =
        record {
          elsewhere = rw drops.plain e;
          outside = rw drops.plain (outside_place (f ∷ from) path m.between m.outside);
          there = rw drops.plain m.there;
          between = m.between;
          went = drops.gone;
          came = inserted-added path m.value m.between d' came;
        }
        in
        (d', moves, refl)

root_stays : (path : Path) (d d' : Document) → effect d (Move [] path) ≡ Ok d' → d ≡ d'
root_stays path d d' h = let n = not_refused (is_proper_prefix [] path) IntoItself (Ok d) d' h in
    let s = n.1 in cc

copy_leads : (from path : Path) (v d d' : Document) → walk d from ≡ Ok v → added path v d ≡ Ok d'
    → Leads d (changes_of d (Copy from path)) d'
copy_leads from path v d d' there h =
    rw (at_reached from d v there) (d', (there, inserted-added path v d d' h), refl)

pub effect_leads : (op : Op) (d d' : Document) → effect d op ≡ Ok d' → Leads d (changes_of d op) d'
effect_leads (Add path v) d d' h = (d', add_makes path v d d' h, refl)
effect_leads (Remove path) d d' h = (d', remove_makes path d d' h, refl)
effect_leads (Replace path v) d d' h = (d', h, refl)
effect_leads (Move [] path) d d' h = root_stays path d d' h
effect_leads (Move (f ∷ from) path) d d' h = let m = did_move f from path d d' h in
    move_leads f from path d d' (same_path (f ∷ from) (place_of m.between path).path) m refl
effect_leads (Copy from path) d d' h = let s = then_ok (walk d from) (λ v. added path v d) d' h in
    copy_leads from path s.0 d d' s.1 s.2
effect_leads (Test path v) d d' h =
    let s = then_ok (walk d path) (λ w. if same w v then Ok d else Err TestFailed) d' h in
    test_leads (same s.0 v) d d' s.2

pub Leads-append : (a b : List Change) (d e f : Document) → Leads d a e → Leads e b f
    → Leads d (a ++ b) f
Leads-append [] b d e f h k = subst (λ x. Leads x b f) (sym h) k
Leads-append (c ∷ a) b d e f h k = (h.0, h.1, Leads-append a b h.0 e f h.2 k)

pub after_leads : (ops : List Op) (n spent : ℕ) (bounds : Bounds) (d d' : Document)
    → after_from n spent bounds d ops ≡ Ok d' → Leads d (all_changes d ops) d'
after_leads [] n spent bounds d d' h = cc
after_leads (op ∷ ops) n spent bounds d d' h =
    let now = spent_after spent d op in
    let s = went_on n (performed bounds spent d op)
    (λ e. after_from (suc n) now bounds e ops) d' h in
    let first = (performed_is bounds spent d s.0 op s.1).0 in
    rw first (Leads-append (changes_of d op) (all_changes s.0 ops) d s.0 d'
    (effect_leads op d s.0 first) (after_leads ops (suc n) now bounds s.0 d' s.2))

pub is_led : IsLed
is_led d d' ops bounds h = after_leads ops 0 0 bounds d d' h

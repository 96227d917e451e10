-- The depth and the weight of a document after a change, from what the change added and removed.
use Rattle.std.proofs.Common.{◌≡◌, ℕ, suc, ◌+◌, ◌-◌, ◌^◌, ◌<◌, ◌≤◌, max, List, [], ◌∷◌, ◌++◌}
use Rattle.std.proofs.Common.{length, Bool, true, false, Option, Some, None, Result, Ok, Err, ok_or}
use Rattle.std.proofs.Common.{refl, sym, ap, subst, ◌∙◌, bytes_eq, if◌then◌else◌, nat_lt, IsOk}
use Rattle.std.proofs.Common.{String, Global, string_bytes, get_or, take, OnOk, arith, IfOk}
use Rattle.relay_tree.specs.Document.{Document, null, list, object, Items, Members, no_members}
use Rattle.relay_tree.specs.Document.{member, depth, weight, items_weight, members_weight}
use Rattle.relay_tree.specs.Part.{insert_item, drop_item, member_at, set_member, put_member}
use Rattle.relay_tree.specs.Part.{drop_member}
use Rattle.relay_pointer.specs.Index.{Token, index_of}
use Rattle.relay_pointer.specs.Path.{Path, path_of, at, put, put_element, with_child}
use Rattle.relay_patch.specs.Walk.{then_do, element, step, walk}
use Rattle.relay_patch.specs.declared.fault.Cause.{Cause}
use Rattle.relay_patch.specs.declared.fault.Cause.TheVariants.{TooDeep, TooHeavy, Missing, PastEnd}
use Rattle.relay_patch.specs.Place.{parent, last}
use Rattle.relay_patch.specs.declared.change.Place.{Place}
use Rattle.relay_patch.specs.Patch.{exceeds, within, Act, at_path, below, insert_child}
use Rattle.relay_patch.specs.Patch.{insert_element, drop_child, drop_element, replaced}
use Rattle.relay_patch.specs.declared.bounds.Bounds.{Bounds}
use Rattle.relay_patch.specs.Change.{Makes, in_list, in_object, placed, inserted_at}
use Rattle.relay_patch.specs.declared.change.Change.{Change}
use Rattle.relay_patch.specs.declared.change.Change.TheVariants as change
use Rattle.relay_patch.specs.Measure.{reach, displaced, gone, part_weight, name_weight}
use Rattle.relay_patch.specs.Measure.{place_weight, new_name, lost, gained, judged, Known, Became}
use Rattle.relay_patch.proofs.Refusals.{then_ok, then_itself, ok_or_some, ok_or_found, not_refused}
use Rattle.relay_patch.proofs.Parts.{at_index, place_in_at_index}
use Rattle.relay_patch.proofs.Sites.{parent-last}
use Rattle.relay_patch.proofs.Inside.{was_inside}
use Rattle.relay_patch.proofs.Exchanges.{replaced-step, walk-replaced, at_end, replaced-put}
use Rattle.relay_patch.proofs.Exchanges.{replaced_needs}
use Rattle.relay_patch.proofs.Depths.{walk_depth}
use Rattle.relay_patch.proofs.Tokens.{last_end}
use Rattle.relay_patch.proofs.Walks.{at_reached, at_refused, walk-append}
use Rattle.relay_patch.proofs.Carried.{plainly}
use Rattle.relay_patch.proofs.Made.{at_last}
use Rattle.relay_patch.proofs.Fits.{stands_at, stood_at, inserted_stands}
use Rattle.std.specs.Result.{result_ok}
use Rattle.std.proofs.lemmas.Bool.Decides.{nat_tests}
use Rattle.relay_tree.proofs.Outcomes.{some_ok}
use Rattle.relay_pointer.proofs.Tokens.{tokens_back}
use Rattle.relay_tree.proofs.Sizes.{weight-least, put_item-weight, insert_item-sizes}
use Rattle.relay_tree.proofs.Sizes.{add_member-weight, put_member-depth, drop_item-sizes}
use Rattle.relay_tree.proofs.Sizes.{drop_member-sizes}
use Rattle.relay_pointer.proofs.Puts.{with_child-depth}

-- A part replaced.

member_weighs : (ms : Members) (k : List ℕ) (c e : Document) → member_at ms k ≡ Some c
    → members_weight (set_member ms k e) + weight c ≡ members_weight ms + weight e
member_weighs no_members k c e h = cc
member_weighs (member n d ms) k c e h = go (bytes_eq n k) h (member_weighs ms k c e)
  where
    go : (x : Bool) → (if x then Some d else member_at ms k) ≡ Some c
        → (member_at ms k ≡ Some c
        → members_weight (set_member ms k e) + weight c ≡ members_weight ms + weight e)
        → members_weight (if x then member n e ms else member n d (set_member ms k e)) + weight c
        ≡ members_weight (member n d ms) + weight e
    go true h ih = let same : d ≡ c = cc in let w = ap weight same in omega (arith, w)
    go false h ih = let below = ih h in omega (arith, below)

element_weighs : (ds : Items) (t : Token) (o : Option ℕ) (c e : Document) → element ds t o ≡ Ok c
    → items_weight (put_element ds o e) + weight c ≡ items_weight ds + weight e
element_weighs ds t None c e h = cc
element_weighs ds t (Some i) c e h = put_item-weight ds i c e (ok_or_some _ _ _ h)

child_weighs : (d : Document) (t : Token) (c e : Document) → step d t ≡ Ok c
    → weight (with_child d t e) + weight c ≡ weight d + weight e
child_weighs (list ds) t c e h = let w = element_weighs ds t (index_of t) c e h in omega (arith, w)
child_weighs (object ms) t c e h =
    let w = member_weighs ms t c e (ok_or_some _ _ _ h) in omega (arith, w)
child_weighs _ t c e h = cc

-- the weight of the whole changes by as much as that of the part
pub replaced_weighs : (p : Path) (v d c e : Document) → walk d p ≡ Ok c → replaced p v d ≡ Ok e
    → weight e + weight c ≡ weight d + weight v
replaced_weighs [] v d c e h k =
    let a : d ≡ c = cc in let b : v ≡ e = cc in let x = ap weight a in let y = ap weight b in
    omega (arith, x, y)
replaced_weighs (t ∷ p) v d c e h k =
    let w = was_inside (replaced p v) t d e (rw (replaced-step t p v d) at k) in
    let there : walk w.before p ≡ Ok c = rw w.stood at h in
    omega (
      arith,
      replaced_weighs p v w.before c w.later there w.changed,
      child_weighs d t w.before w.later w.stood,
      ap weight w.whole,
    )

-- the document is no deeper than before, or than the new part at its place reaches
pub replaced_deep : (p : Path) (v d e : Document) → replaced p v d ≡ Ok e
    → depth e ≤ max (depth d) (length p + depth v)
replaced_deep [] v d e k = let b : v ≡ e = cc in let y = ap depth b in omega (arith, y)
replaced_deep (t ∷ p) v d e k =
    let w = was_inside (replaced p v) t d e (rw (replaced-step t p v d) at k) in
    let ih = replaced_deep p v w.before w.later w.changed in
    omega (
      arith,
      ih,
      with_child-depth d t w.later,
      walk_depth (t ∷ []) d w.before (rw w.stood refl),
      ap depth w.whole,
    )

-- the name of a member is its path's last token
name_weight-end : (before : Path) (t : Token) → name_weight (before ++ t ∷ []) ≡ length t
name_weight-end [] t = refl
name_weight-end (u ∷ before) t = ap length (last_end u before t)

pub tokens_named : (ts : List (String Global)) (t : String Global) → 1 ≤ length ts
    → t ≡ get_or ts (length ts - 1) t → name_weight (path_of ts) ≡ length (string_bytes t)
tokens_named ts t h is =
    ap name_weight (tokens_back ts t h is)
    ∙ name_weight-end (path_of (take (length ts - 1) ts)) (string_bytes t)

-- An element or a member inserted or dropped.

-- In a container.
inserted_in_list : (v : Document) (t : Token) (c c' : Document)
    → in_list (insert_child v) t c ≡ Ok c'
    → (weight c' ≡ weight c + weight v) × (depth c' ≤ max (depth c) (suc (depth v)))
inserted_in_list v t (list ds) c' h =
    let a = at_index (insert_child v) t (list ds) c' (index_of t) h in
    let done : insert_element v ds (Some a.0) ≡ Ok c' =
    subst (λ o. insert_element v ds o ≡ Ok c') (place_in_at_index ds t a.0 a.1) a.2 in
    let s = then_ok (ok_or (insert_item ds a.0 v) PastEnd) (λ es. Ok (list es)) c' done in
    let k : Ok (list s.0) ≡ Ok c' = s.2 in
    let is : c' ≡ list s.0 = cc in
    let r = insert_item-sizes ds a.0 v s.0 (ok_or_some _ _ _ s.1) in
    (omega (arith, ap weight is, r.0), omega (arith, ap depth is, r.1))
inserted_in_list v t _ c' h = cc

member_put : (ms : Members) (a : List ℕ) (v : Document) (o : Option Document) → member_at ms a ≡ o
    → members_weight (put_member ms a v) + part_weight o
    ≡ members_weight ms + weight v + new_name (length a) o
member_put ms a v None h = rw h (let w = add_member-weight ms a v h in omega (arith, w))
member_put ms a v (Some c) h = rw h (let w = member_weighs ms a c v h in omega (arith, w))

put_in_object : (v : Document) (t : Token) (c c' : Document) (o : Option Document)
    → in_object (insert_child v) t c ≡ Ok c' → result_ok (step c t) ≡ o
    → (weight c' + part_weight o ≡ weight c + weight v + new_name (length t) o)
    × (depth c' ≤ max (depth c) (suc (depth v)))
put_in_object v t (object ms) c' o h found =
    let is : c' ≡ object (put_member ms t v) = cc in
    let heavy = member_put ms t v o (sym (ok_or_found (member_at ms t) Missing) ∙ found) in
    (omega (arith, ap weight is, heavy), omega (arith, ap depth is, put_member-depth ms t v))
put_in_object v t _ c' o h found = cc

dropped_from_list : (t : Token) (c c' v : Document) → in_list drop_child t c ≡ Ok c'
    → step c t ≡ Ok v → (weight c' + weight v ≡ weight c) × (depth c' ≤ depth c)
dropped_from_list t (list ds) c' v h there =
    let a = at_index drop_child t (list ds) c' (index_of t) h in
    let done : drop_element ds t (Some a.0) ≡ Ok c' =
    subst (λ o. drop_element ds t o ≡ Ok c') a.1 a.2 in
    let stood : element ds t (Some a.0) ≡ Ok v = subst (λ o. element ds t o ≡ Ok v) a.1 there in
    let s = then_ok (ok_or (drop_item ds a.0) Missing) (λ es. Ok (list es)) c' done in
    let k : Ok (list s.0) ≡ Ok c' = s.2 in
    let is : c' ≡ list s.0 = cc in
    let r = drop_item-sizes ds a.0 v s.0 (ok_or_some _ _ _ stood) (ok_or_some _ _ _ s.1) in
    (omega (arith, ap weight is, r.0), omega (arith, ap depth is, r.1))
dropped_from_list t _ c' v h there = cc

dropped_from_object : (t : Token) (c c' v : Document) → in_object drop_child t c ≡ Ok c'
    → step c t ≡ Ok v → (weight c' + weight v + length t ≡ weight c) × (depth c' ≤ depth c)
dropped_from_object t (object ms) c' v h there =
    let s = then_ok (ok_or (drop_member ms t) Missing) (λ ns. Ok (object ns)) c' h in
    let k : Ok (object s.0) ≡ Ok c' = s.2 in
    let is : c' ≡ object s.0 = cc in
    let r = drop_member-sizes ms t v s.0 (ok_or_some _ _ _ there) (ok_or_some _ _ _ s.1) in
    (omega (arith, ap weight is, r.0), omega (arith, ap depth is, r.1))
dropped_from_object t _ c' v h there = cc

-- At a path.

parent_length : (t : Token) (path : Path) → length (parent t path) ≡ length path
parent_length t [] = refl
parent_length t (u ∷ path) = ap suc (parent_length u path)

-- the container that was replaced by another
record Ended (act : Act) (t : Token) (path : Path) (d e : Document) : Type 0 where
  pub container : Document
  pub later : Document
  pub there : walk d (parent t path) ≡ Ok container
  pub acted : act (last t path) container ≡ Ok later
  pub back : replaced (parent t path) later d ≡ Ok e

ended : (act : Act) (t : Token) (path : Path) (d e : Document) → at_path act (t ∷ path) d ≡ Ok e
    → Ended act t path d e
ended act t path d e h =
    let split : at_path act (parent t path ++ last t path ∷ []) d ≡ Ok e =
    subst (λ p. at_path act p d ≡ Ok e) (sym (parent-last t path)) h in
    let exchanged = sym (at_end act (parent t path) (last t path) d) ∙ split in
    let w = then_ok (walk d (parent t path)) (λ c.
    then_do (act (last t path) c) (λ c'. replaced (parent t path) c' d)) e exchanged in
    let a = then_ok (act (last t path) w.0) (λ c'. replaced (parent t path) c' d) e w.2 in
    record { container = w.0; later = a.0; there = w.1; acted = a.1; back = a.2 }

-- the whole gains and loses as much as the container
ended_weighs : (act : Act) (t : Token) (path : Path) (d e : Document) → (m : Ended act t path d e)
    → weight e + weight m.container ≡ weight d + weight m.later
ended_weighs act t path d e m =
    replaced_weighs (parent t path) m.later d m.container e m.there m.back

ended_deep : (act : Act) (t : Token) (path : Path) (v d e : Document) → (m : Ended act t path d e)
    → depth m.later ≤ max (depth m.container) (suc (depth v))
    → depth e ≤ max (depth d) (length (t ∷ path) + depth v)
ended_deep act t path v d e m deep =
    let whole = replaced_deep (parent t path) m.later d e m.back in
    omega (
      arith,
      deep,
      whole,
      walk_depth (parent t path) d m.container m.there,
      parent_length t path,
    )

ended_flat : (act : Act) (t : Token) (path : Path) (d e : Document) → (m : Ended act t path d e)
    → depth m.later ≤ depth m.container → depth e ≤ depth d
ended_flat act t path d e m flat =
    omega (
      arith,
      flat,
      replaced_deep (parent t path) m.later d e m.back,
      walk_depth (parent t path) d m.container m.there,
    )

element_inserted : (t : Token) (path : Path) (v d e : Document)
    → at_path (in_list (insert_child v)) (t ∷ path) d ≡ Ok e
    → (weight e ≡ weight d + weight v) × (depth e ≤ max (depth d) (length (t ∷ path) + depth v))
element_inserted t path v d e h =
    let m = ended (in_list (insert_child v)) t path d e h in
    let c = inserted_in_list v (last t path) m.container m.later m.acted in (
      omega (arith, ended_weighs (in_list (insert_child v)) t path d e m, c.0),
      ended_deep (in_list (insert_child v)) t path v d e m c.1,
    )

member_inserted : (t : Token) (path : Path) (v d e : Document) (o : Option Document)
    → at_path (in_object (insert_child v)) (t ∷ path) d ≡ Ok e → at d (t ∷ path) ≡ o
    → (weight e + part_weight o ≡ weight d + weight v + new_name (length (last t path)) o)
    × (depth e ≤ max (depth d) (length (t ∷ path) + depth v))
member_inserted t path v d e o h found =
    let m = ended (in_object (insert_child v)) t path d e h in
    let c =
    put_in_object v (last t path) m.container m.later o m.acted
    (sym (at_last d m.container t path m.there) ∙ found) in (
      omega (arith, ended_weighs (in_object (insert_child v)) t path d e m, c.0),
      ended_deep (in_object (insert_child v)) t path v d e m c.1,
    )

inserted_weighs : (place : Place) (v d e : Document) → inserted_at place.item place.path v d ≡ Ok e
    → weight e + part_weight (displaced place d)
    ≡ weight d + weight v + new_name (place_weight place) (displaced place d)
inserted_weighs place v d e h = go place.item place.path h
  where
    go : (b : Bool) (path : Path) → inserted_at b path v d ≡ Ok e
        → weight e + part_weight (if b then None else at d path)
        ≡ weight d + weight v + new_name (if b then 0 else name_weight path) (if b then None
        else at d path)
    go true [] k = cc
    go true (t ∷ path) k = let w = (element_inserted t path v d e k).0 in omega (arith, w)
    go false [] k = let same : v ≡ e = cc in let w = ap weight same in omega (arith, w)
    go false (t ∷ path) k = (member_inserted t path v d e (at d (t ∷ path)) k refl).0

inserted_deep : (b : Bool) (path : Path) (v d e : Document) → inserted_at b path v d ≡ Ok e
    → depth e ≤ max (depth d) (length path + depth v)
inserted_deep true [] v d e h = cc
inserted_deep true (t ∷ path) v d e h = (element_inserted t path v d e h).1
inserted_deep false [] v d e h = let same : v ≡ e = cc in let w = ap depth same in omega (arith, w)
inserted_deep false (t ∷ path) v d e h = (member_inserted t path v d e (at d (t ∷ path)) h refl).1

step_last : (t : Token) (path : Path) (d c v : Document) → walk d (parent t path) ≡ Ok c
    → walk d (t ∷ path) ≡ Ok v → step c (last t path) ≡ Ok v
step_last t path d c v there h =
    let split : walk d (parent t path ++ last t path ∷ []) ≡ Ok v =
    subst (λ p. walk d p ≡ Ok v) (sym (parent-last t path)) h in
    let whole = sym (walk-append (parent t path) (last t path ∷ []) d) ∙ split in
    sym (then_itself (step c (last t path))) ∙ rw there at whole

dropped_weighs : (b : Bool) (path : Path) (d e v : Document)
    → at_path (placed b drop_child) path d ≡ Ok e → walk d path ≡ Ok v
    → (weight e + weight v + (if b then 0 else name_weight path) ≡ weight d) × (depth e ≤ depth d)
dropped_weighs b [] d e v h there = cc
dropped_weighs true (t ∷ path) d e v h there =
    let m = ended (in_list drop_child) t path d e h in
    let c =
    dropped_from_list (last t path) m.container m.later v m.acted
    (step_last t path d m.container v m.there there) in (
      omega (arith, ended_weighs (in_list drop_child) t path d e m, c.0),
      ended_flat (in_list drop_child) t path d e m c.1,
    )
dropped_weighs false (t ∷ path) d e v h there =
    let m = ended (in_object drop_child) t path d e h in
    let c =
    dropped_from_object (last t path) m.container m.later v m.acted
    (step_last t path d m.container v m.there there) in (
      omega (arith, ended_weighs (in_object drop_child) t path d e m, c.0),
      ended_flat (in_object drop_child) t path d e m c.1,
    )

-- The value to which a path leads weighs no more than the whole.

part_fits : (path : Path) (d v : Document) → walk d path ≡ Ok v → weight v ≤ weight d
part_fits path d v h =
    omega (
      arith,
      replaced_weighs path null d v (put d path null) h (replaced-put path null d v h),
      weight-least (put d path null),
    )

displaced_fits : (place : Place) (d : Document) → part_weight (displaced place d) ≤ weight d
displaced_fits place d = go place.item (walk d place.path) refl
  where
    go : (b : Bool) (r : Result Document Cause) → walk d place.path ≡ r
        → part_weight (if b then None else at d place.path) ≤ weight d
    go true r h = omega arith
    go false (Ok v) h = rw (at_reached place.path d v h) (part_fits place.path d v h)
    go false (Err e) h = rw (at_refused place.path d e h) (omega arith)

-- One change.

abbrev pub Weighs : Document → Change → Document → Type 0
Weighs d c e =
    (lost c (gone d c) ≤ weight d) × (weight e + lost c (gone d c) ≡ weight d + gained c (gone d c))

set_weighs : (path : Path) (v d w e : Document) → walk d path ≡ Ok w → replaced path v d ≡ Ok e
    → Weighs d (change.Set path v) e
set_weighs path v d w e there h =
    rw (at_reached path d w there) (part_fits path d w there, replaced_weighs path v d w e there h)

drop_weighs : (b : Bool) (path : Path) (d e v : Document)
    → at_path (placed b drop_child) path d ≡ Ok e → walk d path ≡ Ok v
    → (weight v + (if b then 0 else name_weight path) ≤ weight d)
    × (weight e + (weight v + (if b then 0 else name_weight path)) ≡ weight d)
drop_weighs b path d e v h there =
    let w = (dropped_weighs b path d e v h there).0 in (omega (arith, w), omega (arith, w))

move_weighs : (from to : Place) (v d e : Document) → (m : Makes d (change.Move from to v) e)
    → Weighs d (change.Move from to v) e
move_weighs from to v d e m =
    let less = (dropped_weighs from.item from.path d m.between v m.went m.there).0 in
    let more = inserted_weighs to v m.between e m.came in
    let fits = displaced_fits to m.between in
    rw (plainly from.item drop_child from.path d m.between m.went) (
      omega (arith, less, fits),
      omega (arith, less, more),
    )

-- the weight gained and lost
pub makes_weigh : (c : Change) (d e : Document) → Makes d c e → Weighs d c e
makes_weigh (change.Set path v) d e m =
    let w = some_ok _ (replaced_needs path v d (rw m refl)) in set_weighs path v d w.0 e w.1 m
makes_weigh (change.AddMember [] v) d e m = let none = m.1 in cc
makes_weigh (change.AddMember (t ∷ path) v) d e m =
    let w = (member_inserted t path v d e None m.1 m.0).0 in (omega arith, omega (arith, w))
makes_weigh (change.AddItem [] v) d e m = cc
makes_weigh (change.AddItem (t ∷ path) v) d e m =
    let w = (element_inserted t path v d e m).0 in (omega arith, omega (arith, w))
makes_weigh (change.DropMember path) d e m =
    let s = stood_at false path d e m in
    let w = drop_weighs false path d e s.0 m s.1 in
    let fits = w.0 in
    rw (at_reached path d s.0 s.1) (fits, omega (arith, w.1))
makes_weigh (change.DropItem path) d e m =
    let s = stood_at true path d e m in
    let w = drop_weighs true path d e s.0 m s.1 in
    rw (at_reached path d s.0 s.1) (omega (arith, w.0), omega (arith, w.1))
makes_weigh (change.Move from to v) d e m = move_weighs from to v d e m
makes_weigh (change.Copy from to v) d e m =
    let w = inserted_weighs to v d e m.1 in (displaced_fits to d, omega (arith, w))

-- the document is no deeper than before, or than the added value reaches
makes_deep : (c : Change) (d e : Document) → Makes d c e → depth e ≤ max (depth d) (reach c)
makes_deep (change.Set path v) d e m = replaced_deep path v d e m
makes_deep (change.AddMember path v) d e m = member_deeper path m.1
  where
    member_deeper : (p : Path) → at_path (in_object (insert_child v)) p d ≡ Ok e
        → depth e ≤ max (depth d) (length p + depth v)
    member_deeper [] h = cc
    member_deeper (t ∷ p) h = (member_inserted t p v d e (at d (t ∷ p)) h refl).1
makes_deep (change.AddItem path v) d e m = inserted_deep true path v d e m
makes_deep (change.DropMember path) d e m =
    let s = stood_at false path d e m in let w = (dropped_weighs false path d e s.0 m s.1).1 in
    omega (arith, w)
makes_deep (change.DropItem path) d e m =
    let s = stood_at true path d e m in let w = (dropped_weighs true path d e s.0 m s.1).1 in
    omega (arith, w)
makes_deep (change.Move from to v) d e m =
    omega (
      arith,
      (dropped_weighs from.item from.path d m.between v m.went m.there).1,
      inserted_deep to.item to.path v m.between e m.came,
    )
makes_deep (change.Copy from to v) d e m = inserted_deep to.item to.path v d e m.1

-- the document is at least as deep as the added value reaches
makes_stand : (c : Change) (d e : Document) → Makes d c e → reach c ≤ depth e
makes_stand (change.Set path v) d e m = walk_depth path e v (walk-replaced path v d e m)
makes_stand (change.AddMember path v) d e m = walk_depth path e v (stands_at false v path d e m.1)
makes_stand (change.AddItem path v) d e m = walk_depth path e v (stands_at true v path d e m)
makes_stand (change.Move from to v) d e m =
    walk_depth to.path e v (inserted_stands to.item to.path v m.between e m.came)
makes_stand (change.Copy from to v) d e m =
    walk_depth to.path e v (inserted_stands to.item to.path v d e m.1)
makes_stand _ d e m = omega arith

-- The bounds, from the change alone.

same_excess : (most a b c : ℕ) → exceeds most a ≡ false → b ≤ max a c → c ≤ b
    → exceeds most b ≡ exceeds most c
same_excess most a b c within below above = go (exceeds most c) refl
  where
    go : (x : Bool) → exceeds most c ≡ x → exceeds most b ≡ x
    go true e = grind (arith, nat_tests)
    go false e = grind (arith, nat_tests)

unbounded : (most a b : ℕ) → nat_lt most (2 ^ 64 - 1) ≡ false → exceeds most a ≡ exceeds most b
unbounded most a b h =
    let x : exceeds most a ≡ false = grind (arith, nat_tests) in
    let y : exceeds most b ≡ false = grind (arith, nat_tests) in
    x ∙ sym y

-- a document that was within the bounds is within them after a change exactly if the change is
-- judged to be
judgement : (c : Change) (bounds : Bounds) (d e : Document) (n : ℕ) → Makes d c e
    → within bounds d ≡ Ok d → (bounds.weight < 2 ^ 64 - 1 → weight e ≡ n)
    → within bounds e ≡ then_do (judged bounds c n) (λ _. Ok e)
judgement c bounds d e n m kept known =
    let flat =
    (not_refused (exceeds bounds.depth (depth d)) TooDeep
    (if exceeds bounds.weight (weight d) then Err TooHeavy else Ok d) d kept).0 in
    let deep =
    same_excess bounds.depth (depth d) (depth e) (reach c) flat (makes_deep c d e m)
    (makes_stand c d e m) in
    rw (deep, heavy (nat_lt bounds.weight (2 ^ 64 - 1)) refl)
    (go (exceeds bounds.depth (reach c)) (exceeds bounds.weight n))
  where
    heavy : (x : Bool) → nat_lt bounds.weight (2 ^ 64 - 1) ≡ x
        → exceeds bounds.weight (weight e) ≡ exceeds bounds.weight n
    heavy true b = let small : bounds.weight < 2 ^ 64 - 1 = grind (arith, nat_tests) in
        ap (exceeds bounds.weight) (known small)
    heavy false b = unbounded bounds.weight (weight e) n b

    go : (x y : Bool) → (if x then Err TooDeep else (if y then Err TooHeavy else Ok e))
        ≡ then_do (if x then Err TooDeep else (if y then Err TooHeavy else Ok n)) (λ _. Ok e)
    go false true = refl
    go _ _ = refl

-- A document whose weight before the change is known.

pub lost_known : (bounds : Bounds) (n : ℕ) (c : Change) (went : Option Document) (d : Document)
    → Became bounds (Some n) c went d → bounds.weight < 2 ^ 64 - 1 → lost c went ≤ n
lost_known bounds n c went d b small =
    rw b.took (omega (arith, (makes_weigh c b.before d b.made).0, b.was.1 small))

pub weight_known : (bounds : Bounds) (n : ℕ) (c : Change) (went : Option Document) (d : Document)
    → Became bounds (Some n) c went d → bounds.weight < 2 ^ 64 - 1
    → weight d ≡ n - lost c went + gained c went
weight_known bounds n c went d b small =
    let w = makes_weigh c b.before d b.made in
    rw b.took (omega (arith, w.0, w.1, b.was.1 small))

judged_known : (bounds : Bounds) (n : ℕ) (c : Change) (went : Option Document) (d : Document)
    → Became bounds (Some n) c went d
    → within bounds d ≡ then_do (judged bounds c (n - lost c went + gained c went)) (λ _. Ok d)
judged_known bounds n c went d b =
    judgement c bounds b.before d (n - lost c went + gained c went) b.made b.was.0
    (weight_known bounds n c went d b)

pub judged_fit : (bounds : Bounds) (n : ℕ) (c : Change) (went : Option Document) (d : Document)
    → Became bounds (Some n) c went d → IsOk (judged bounds c (n - lost c went + gained c went))
    → within bounds d ≡ Ok d
judged_fit bounds n c went d b h =
    let s = some_ok _ h in judged_known bounds n c went d b ∙ rw s.1 refl

pub judged_excess : (bounds : Bounds) (n : ℕ) (c : Change) (went : Option Document) (d : Document)
    (cause : Cause) → Became bounds (Some n) c went d
    → judged bounds c (n - lost c went + gained c went) ≡ Err cause → within bounds d ≡ Err cause
judged_excess bounds n c went d cause b h = judged_known bounds n c went d b ∙ rw h refl

-- what a judgement predicts
pub foreseen : (bounds : Bounds) (n : ℕ) (c : Change) (went : Option Document) (r : Result ℕ Cause)
    → OnOk r (IsOk (judged bounds c (n - lost c went + gained c went)))
    → IfOk r (λ m. bounds.weight < 2 ^ 64 - 1 → m ≡ n - lost c went + gained c went)
    → IfOk r (λ m. (next : Document) → Became bounds (Some n) c went next
    → Known bounds next (Some m))
foreseen bounds n c went (Ok m) fits same =
    λ next b. (
      judged_fit bounds n c went next b fits,
      λ small.
          same small ∙ sym (weight_known bounds n c went next b small),
    )
foreseen bounds n c went (Err e) fits same = tt

-- Consequences of the target of an insertion or a removal for the operation.
use Rattle.std.proofs.Common.{◌≡◌, ℕ, ◌<◌, [], ◌∷◌, ◌++◌, Bool, true, false, Option, Some, None}
use Rattle.std.proofs.Common.{is_some, ok_or, Result, Ok, Err, IsOk, refl, sym, ap, subst, ◌∙◌}
use Rattle.std.proofs.Common.{nat_le, if◌then◌else◌, arith}
use Rattle.std.specs.Result.{result_ok}
use Rattle.std.proofs.lemmas.Bool.Decides.{nat_tests}
use Rattle.relay_tree.specs.Document.{Document, null, truth, whole, text, list, object, Items}
use Rattle.relay_tree.specs.Part.{items_length, member_at}
use Rattle.relay_pointer.specs.Index.{Token, index_of}
use Rattle.relay_pointer.specs.Path.{Path, at}
use Rattle.relay_patch.specs.Walk.{then_do, is_dash, element, step, walk}
use Rattle.relay_patch.specs.declared.fault.Cause.{Cause}
use Rattle.relay_patch.specs.declared.fault.Cause.TheVariants.{Missing, NotIndex, PastEnd}
use Rattle.relay_patch.specs.declared.fault.Cause.TheVariants.{NoContainer}
use Rattle.relay_patch.specs.Place.{parent, last, place_within, place_of}
use Rattle.relay_patch.specs.Patch.{at_path, added, insert_child, insert_element, drop_child}
use Rattle.relay_patch.specs.Change.{added_change, removed_change}
use Rattle.relay_patch.specs.declared.change.Change.TheVariants as change
use Rattle.relay_apply.specs.declared.insert_target.InsertTarget.TheVariants as insert_target
use Rattle.relay_apply.specs.Steps.{InsertTarget, index_within, insertion_index, resolve_insert_in}
use Rattle.relay_apply.specs.Steps.{resolve_insert, is_list, resolve_existing_in, resolve_existing}
use Rattle.relay_apply.specs.Steps.{final, is_item, insert_place, insertion, removal}
use Rattle.relay_patch.proofs.Refusals.{then_ok, ok_or_found}
use Rattle.relay_patch.proofs.Walks.{at_reached}
use Rattle.relay_patch.proofs.Parts.{no_dash}
use Rattle.relay_patch.proofs.Sites.{parent-last}
use Rattle.relay_patch.proofs.Acts.{at_passes, at_stops, at_no_container, drops, drop_refused}
use Rattle.relay_patch.proofs.Made.{at_last}
use Rattle.relay_patch.proofs.Tokens.{parent_end, last_end}
use Rattle.relay_tree.proofs.Outcomes.{is_ok_then}
use Rattle.relay_tree.proofs.Elements.{insert_item-there, insert_item-none}

-- Insertions in a container.

index_passes : (ds : Items) (o : Option ℕ) (i : ℕ) → index_within (items_length ds) o ≡ Ok i
    → (v : Document) → IsOk (insert_element v ds o)
index_passes ds None i h v = cc
index_passes ds (Some j) i h v = go (nat_le j (items_length ds)) refl
  where
    go : (x : Bool) → nat_le j (items_length ds) ≡ x → IsOk (insert_element v ds (Some j))
    go true e = let r = insert_item-there ds j v (grind (arith, nat_tests)) in rw r.1 refl
    go false e = let k : Err PastEnd ≡ Ok i = rw e at h in cc

index_refuses : (ds : Items) (o : Option ℕ) (e : Cause) → index_within (items_length ds) o ≡ Err e
    → (v : Document) → insert_element v ds o ≡ Err e
index_refuses ds None e h v = let same : NotIndex ≡ e = cc in ap Err same
index_refuses ds (Some j) e h v = go (nat_le j (items_length ds)) refl
  where
    go : (x : Bool) → nat_le j (items_length ds) ≡ x → insert_element v ds (Some j) ≡ Err e
    go true f = let k : Ok j ≡ Err e = rw f at h in cc
    go false f =
        let k : Err PastEnd ≡ Err e = rw f at h in
        let past : items_length ds < j = grind (arith, nat_tests) in
        let same : PastEnd ≡ e = cc in
        rw (insert_item-none ds j v past) (ap Err same)

end_passes : (ds : Items) (v : Document) → IsOk (insert_element v ds (Some (items_length ds)))
end_passes ds v = let r = insert_item-there ds (items_length ds) v (omega arith) in rw r.1 refl

list_passes : (ds : Items) (t : Token) (i : ℕ) → insertion_index (items_length ds) t ≡ Ok i
    → (v : Document) → IsOk (insert_child v t (list ds))
list_passes ds t i h v = go (is_dash t) refl
  where
    go : (x : Bool) → is_dash t ≡ x → IsOk (insert_child v t (list ds))
    go true e = rw e (end_passes ds v)
    go false e = rw e (index_passes ds (index_of t) i (rw e at h) v)

pub list_refuses : (ds : Items) (t : Token) (e : Cause)
    → insertion_index (items_length ds) t ≡ Err e → (v : Document)
    → insert_child v t (list ds) ≡ Err e
list_refuses ds t e h v = go (is_dash t) refl
  where
    go : (x : Bool) → is_dash t ≡ x → insert_child v t (list ds) ≡ Err e
    go true f = let k : Ok (items_length ds) ≡ Err e = rw f at h in cc
    go false f = rw f (index_refuses ds (index_of t) e (rw f at h) v)

not_then : {A B : Type 0} (r : Result A Cause) (f : A → Result B Cause) (e : Cause)
    → then_do r f ≡ Err e → ((x : A) → f x ≡ Err e → ⊥) → r ≡ Err e
not_then (Ok x) f e h never = absurd (never x h)
not_then (Err c) f e h never = cc

insert_in_passes : (c : Document) (t : Token) (s : InsertTarget) → resolve_insert_in c t ≡ Ok s
    → (v : Document) → IsOk (insert_child v t c)
insert_in_passes (list ds) t s h v =
    let r = then_ok (insertion_index (items_length ds) t) (λ i. Ok (insert_target.Item i)) s h in
    list_passes ds t r.0 r.1 v
insert_in_passes (object ms) t s h v = refl
insert_in_passes _ t s h v = cc

insert_in_refuses : (c : Document) (t : Token) (e : Cause) → resolve_insert_in c t ≡ Err e
    → (v : Document) → insert_child v t c ≡ Err e
insert_in_refuses (list ds) t e h v =
    list_refuses ds t e (not_then (insertion_index (items_length ds) t) (λ i.
    Ok (insert_target.Item i)) e h (λ i k. cc)) v
insert_in_refuses (object ms) t e h v = cc
insert_in_refuses _ t e h v = let same : NoContainer ≡ e = cc in ap Err same

-- Insertions at a path.

pub insert_passes : (path : Path) (d : Document) (s : InsertTarget) → resolve_insert d path ≡ Ok s
    → (v : Document) → IsOk (added path v d)
insert_passes [] d s h v = refl
insert_passes (t ∷ path) d s h v =
    let r = then_ok (walk d (parent t path)) (λ c. resolve_insert_in c (last t path)) s h in
    subst (λ p. IsOk (at_path (insert_child v) p d)) (parent-last t path)
    (at_passes (insert_child v) (parent t path) (last t path) d r.0 r.1
    (insert_in_passes r.0 (last t path) s r.2 v))

pub insert_refuses : (path : Path) (d : Document) (e : Cause) → resolve_insert d path ≡ Err e
    → (v : Document) → added path v d ≡ Err e
insert_refuses [] d e h v = cc
insert_refuses (t ∷ path) d e h v =
    subst (λ p. at_path (insert_child v) p d
    ≡ Err e) (parent-last t path) (go (walk d (parent t path)) refl h)
  where
    go : (r : Result Document Cause) → walk d (parent t path) ≡ r
        → then_do r (λ c. resolve_insert_in c (last t path)) ≡ Err e
        → at_path (insert_child v) (parent t path ++ last t path ∷ []) d ≡ Err e
    go (Ok c) there k =
        at_stops (insert_child v) (parent t path) (last t path) d c e there
        (insert_in_refuses c (last t path) e k v)
    go (Err x) there k = let same : x ≡ e = cc in
        at_no_container (insert_child v) (parent t path) (last t path) d e (there ∙ ap Err same)

abbrev SpotIs : ℕ → InsertTarget → Type 0
SpotIs i s = insert_target.Item i ≡ s

insert_place_in : (c : Document) (before : Path) (t : Token) (s : InsertTarget)
    → resolve_insert_in c t ≡ Ok s
    → record { path = before ++ final s t ∷ []; item = is_item s } ≡ place_within (Some c) before t
insert_place_in (list ds) before t s h =
    let r = then_ok (insertion_index (items_length ds) t) (λ i. Ok (insert_target.Item i)) s h in
    let k = r.2 in let is : insert_target.Item r.0 ≡ s = cc in go (is_dash t) refl r.0 r.1 is
  where
    go : (x : Bool) → is_dash t ≡ x → (i : ℕ) → insertion_index (items_length ds) t ≡ Ok i
        → SpotIs i s → record { path = before ++ final s t ∷ []; item = is_item s }
        ≡ place_within (Some (list ds)) before t
    go true e i k w =
        let is : s ≡ insert_target.Item i = sym w in
        let end : Ok (items_length ds) ≡ Ok i = rw e at k in
        let same : i ≡ items_length ds = cc in
        rw (is, same, e) refl
    go false e i k w = let is : s ≡ insert_target.Item i = sym w in rw (is, e) refl
insert_place_in (object ms) before t s h =
    let is : s ≡ insert_target.Member (is_some (member_at ms t)) = cc in rw is refl
insert_place_in null before t s h = cc
insert_place_in (truth b) before t s h = cc
insert_place_in (whole z) before t s h = cc
insert_place_in (text x) before t s h = cc

pub insert_place-place_of : (path : Path) (d : Document) (s : InsertTarget)
    → resolve_insert d path ≡ Ok s → insert_place s path ≡ place_of d path
insert_place-place_of [] d s h = let is : s ≡ insert_target.Root = cc in rw is refl
insert_place-place_of (t ∷ path) d s h =
    let r = then_ok (walk d (parent t path)) (λ c. resolve_insert_in c (last t path)) s h in
    rw (at_reached (parent t path) d r.0 r.1)
    (insert_place_in r.0 (parent t path) (last t path) s r.2)

there_in : (c : Document) (t : Token) (b : Bool)
    → resolve_insert_in c t ≡ Ok (insert_target.Member b) → is_some (result_ok (step c t)) ≡ b
there_in (object ms) t b h =
    let is : is_some (member_at ms t) ≡ b =
    cc in ap is_some (ok_or_found (member_at ms t) Missing) ∙ is
there_in (list ds) t b h =
    let r = then_ok (insertion_index (items_length ds) t) (λ i.
    Ok (insert_target.Item i)) (insert_target.Member b) h in let k = r.2 in cc
there_in _ t b h = cc

no_root_in : (c : Document) (t : Token) → resolve_insert_in c t ≡ Ok insert_target.Root → ⊥
no_root_in (list ds) t h =
    let r = then_ok (insertion_index (items_length ds) t) (λ i.
    Ok (insert_target.Item i)) insert_target.Root h in let k = r.2 in cc
no_root_in _ t h = cc

-- the change of an addition
pub insertion-change : (path : Path) (d : Document) (s : InsertTarget) (v : Document)
    → resolve_insert d path ≡ Ok s
    → insertion s (insert_place s path).path v ≡ added_change d path (place_of d path) v
insertion-change [] d s v h = let is : s ≡ insert_target.Root = cc in rw is refl
insertion-change (t ∷ path) d s v h = rw (← insert_place-place_of (t ∷ path) d s h) (go s h)
  where
    go : (s : InsertTarget) → resolve_insert d (t ∷ path) ≡ Ok s
        → insertion s (insert_place s (t ∷ path)).path v
        ≡ added_change d (t ∷ path) (insert_place s (t ∷ path)) v
    go insert_target.Root h =
        let r = then_ok (walk d (parent t path)) (λ c.
        resolve_insert_in c (last t path)) insert_target.Root h in
        absurd (no_root_in r.0 (last t path) r.2)
    go (insert_target.Member true) h =
        let r = then_ok (walk d (parent t path)) (λ c.
        resolve_insert_in c (last t path)) (insert_target.Member true) h in
        let there : is_some (at d (t ∷ path)) ≡ true =
        ap is_some (at_last d r.0 t path r.1) ∙ there_in r.0 (last t path) true r.2 in
        rw (there, parent-last t path) refl
    go (insert_target.Member false) h =
        let r = then_ok (walk d (parent t path)) (λ c.
        resolve_insert_in c (last t path)) (insert_target.Member false) h in
        let there : is_some (at d (t ∷ path)) ≡ false =
        ap is_some (at_last d r.0 t path r.1) ∙ there_in r.0 (last t path) false r.2 in
        rw (there, parent-last t path) refl
    go (insert_target.Item i) h = refl

-- Removals.

existing-place_within : (c : Document) (before : Path) (t : Token) (b : Bool)
    → resolve_existing_in c t ≡ Ok b
    → place_within (Some c) before t ≡ record { path = before ++ t ∷ []; item = b }
existing-place_within (list ds) before t b h = go (index_of t) refl
  where
    go : (o : Option ℕ) → index_of t ≡ o
        → place_within (Some (list ds)) before t ≡ record { path = before ++ t ∷ []; item = b }
    go None e = let k = rw e at h in cc
    go (Some i) e =
        let r = then_ok (element ds t (index_of t)) (λ _. Ok true) b h in
        let is : true ≡ b = let k : Ok true ≡ Ok b = r.2 in cc in
        rw (no_dash t i e, ← is) refl
existing-place_within (object ms) before t b h =
    let r = then_ok (ok_or (member_at ms t) Missing) (λ _. Ok false) b h in
    let is : false ≡ b = let k : Ok false ≡ Ok b = r.2 in cc in
    rw (← is) refl
existing-place_within null before t b h = cc
existing-place_within (truth x) before t b h = cc
existing-place_within (whole z) before t b h = cc
existing-place_within (text x) before t b h = cc

pub existing-place_of : (path : Path) (d : Document) (b : Bool) → resolve_existing d path ≡ Ok b
    → place_of d path ≡ record { path = path; item = b }
existing-place_of [] d b h = cc
existing-place_of (t ∷ path) d b h =
    let r = then_ok (walk d (parent t path)) (λ c. resolve_existing_in c (last t path)) b h in
    rw (at_reached (parent t path) d r.0 r.1)
    (existing-place_within r.0 (parent t path) (last t path) b r.2
    ∙ ap (λ p. record { path = p; item = b }) (parent-last t path))

pub removal_passes : (path : Path) (d : Document) (b : Bool) → resolve_existing d path ≡ Ok b
    → IsOk (at_path drop_child path d)
removal_passes [] d b h = cc
removal_passes (t ∷ path) d b h =
    let r = then_ok (walk d (parent t path)) (λ c. resolve_existing_in c (last t path)) b h in
    let k = then_ok (step r.0 (last t path)) (λ _. Ok (is_list r.0)) b r.2 in
    subst (λ p. IsOk (at_path drop_child p d)) (parent-last t path)
    (at_passes drop_child (parent t path) (last t path) d r.0 r.1
    (drops r.0 (last t path) (is_ok_then _ k.0 k.1)))

pub removal_refuses : (path : Path) (d : Document) (e : Cause) → resolve_existing d path ≡ Err e
    → at_path drop_child path d ≡ Err e
removal_refuses [] d e h = let k = h in cc
removal_refuses (t ∷ path) d e h =
    subst (λ p. at_path drop_child p d
    ≡ Err e) (parent-last t path) (go (walk d (parent t path)) refl h)
  where
    go : (r : Result Document Cause) → walk d (parent t path) ≡ r
        → then_do r (λ c. resolve_existing_in c (last t path)) ≡ Err e
        → at_path drop_child (parent t path ++ last t path ∷ []) d ≡ Err e
    go (Ok c) there k =
        at_stops drop_child (parent t path) (last t path) d c e there
        (drop_refused c (last t path) e (not_then (step c (last t path)) (λ _.
        Ok (is_list c)) e k (λ x never. cc)))
    go (Err x) there k = let same : x ≡ e = cc in
        at_no_container drop_child (parent t path) (last t path) d e (there ∙ ap Err same)

-- the change of a removal
pub removal-change : (path : Path) (d : Document) (b : Bool) → resolve_existing d path ≡ Ok b
    → removal b path ≡ removed_change (place_of d path)
removal-change path d b h = rw (existing-place_of path d b h) (go b)
  where
    go : (b : Bool) → removal b path ≡ (if b then change.DropItem path else change.DropMember path)
    go true = refl
    go false = refl

pub placed_at : (s : InsertTarget) (path before made : Path) (t : Token) → path ≡ before ++ t ∷ []
    → made ≡ before ++ final s t ∷ []
    → record { path = made; item = is_item s } ≡ insert_place s path
placed_at s path [] made t is h = rw (is, h) refl
placed_at s path (u ∷ before) made t is h =
    rw (is, h, parent_end u before t, last_end u before t) refl

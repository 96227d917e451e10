-- A change whose record is kept does not alter the document that taking back restores.
use Rattle.std.proofs.Common.{◌≡◌, ℕ, List, [], ◌∷◌, ◌++◌, Bool, true, false, Option, Some, None}
use Rattle.std.proofs.Common.{Result, Ok, Err, ok_or, is_ok, IsOk, refl, sym, ap, subst, ◌∙◌}
use Rattle.std.proofs.Common.{if◌then◌else◌, IsNone, IfSome, option_map, option_to_list}
use Rattle.std.specs.Result.{result_ok}
use Rattle.relay_tree.specs.Document.{Document, list, object, Items}
use Rattle.relay_tree.specs.Part.{insert_item, member_at, add_member}
use Rattle.relay_tree.proofs.Elements.{drop_item-insert}
use Rattle.relay_tree.proofs.Named.{drop_member-add}
use Rattle.relay_pointer.specs.Index.{Token, index_of}
use Rattle.relay_pointer.specs.Path.{Path, with_child, at, put}
use Rattle.relay_pointer.proofs.Puts.{put-back, put-missing, with_child-twice}
use Rattle.relay_pointer.proofs.Walks.{with_child-same}
use Rattle.relay_patch.specs.Walk.{step, walk}
use Rattle.relay_patch.specs.declared.fault.Cause.{Cause}
use Rattle.relay_patch.specs.declared.fault.Cause.TheVariants.{Missing, PastEnd}
use Rattle.relay_patch.specs.Place.{parent, last}
use Rattle.relay_patch.specs.declared.change.Place.{Place}
use Rattle.relay_patch.specs.Patch.{Act, replaced, insert_child, insert_element, drop_child, below}
use Rattle.relay_patch.specs.Patch.{at_path}
use Rattle.relay_patch.specs.Change.{Makes, in_list, in_object, inserted, inserted_at}
use Rattle.relay_patch.specs.declared.change.Change.{Change}
use Rattle.relay_patch.specs.Measure.{displaced, gone}
use Rattle.relay_apply.specs.declared.reinsertion.Reinsertion.{Reinsertion}
use Rattle.relay_apply.specs.Undo.{target, undo_of_put, removed_part, reinserted, put_undone}
use Rattle.relay_apply.specs.Undo.{transfer_undone, undone, taken_back}
use Rattle.relay_apply.specs.declared.undo.Undo.{Undo}
use Rattle.relay_patch.specs.declared.change.Change.TheVariants as change
use Rattle.relay_patch.proofs.Refusals.{then_ok, ok_or_some}
use Rattle.relay_patch.proofs.Parts.{at_index, place_in_at_index}
use Rattle.relay_patch.proofs.Inside.{was_inside, step-was_inside}
use Rattle.relay_patch.proofs.Walks.{child_reached, at_reached}
use Rattle.relay_patch.proofs.Made.{at_last}
use Rattle.relay_patch.proofs.Exchanges.{replaced-is}
use Rattle.relay_patch.proofs.Fits.{inserted_stands}
use Rattle.relay_apply.proofs.Puts.{sets}
use Rattle.relay_apply.specs.Steps.{resolve_existing}
use Rattle.relay_apply.proofs.Targets.{removal_passes, removal_refuses}

-- An insertion, dropped again.

element_back : (v : Document) (t : Token) (ds : Items) (i : ℕ) (c : Document) → index_of t ≡ Some i
    → insert_element v ds (Some i) ≡ Ok c → drop_child t c ≡ Ok (list ds)
element_back v t ds i c named h =
    let s = then_ok (ok_or (insert_item ds i v) PastEnd) (λ es. Ok (list es)) c h in
    let whole : Ok (list s.0) ≡ Ok c = s.2 in
    let is : c ≡ list s.0 = cc in
    rw (is, named, drop_item-insert ds i v s.0 (ok_or_some _ _ _ s.1)) refl

item_back : (v : Document) (t : Token) (c c' : Document) → in_list (insert_child v) t c ≡ Ok c'
    → drop_child t c' ≡ Ok c
item_back v t (list ds) c' h =
    let a = at_index (insert_child v) t (list ds) c' (index_of t) h in
    element_back v t ds a.0 c' a.1 (rw (place_in_at_index ds t a.0 a.1) at a.2)
item_back v t _ c' h = cc

member_back : (v : Document) (t : Token) (c c' : Document) → result_ok (step c t) ≡ None
    → in_object (insert_child v) t c ≡ Ok c' → drop_child t c' ≡ Ok c
member_back v t (object ms) c' none h = go (member_at ms t) refl none
  where
    go : (o : Option Document) → member_at ms t ≡ o
        → result_ok (ok_or (member_at ms t) Missing) ≡ None → drop_child t c' ≡ Ok (object ms)
    go (Some w) e k = let some : Some w ≡ None = rw e at k in cc
    go None e k =
        let whole : Ok (object (add_member ms t v)) ≡ Ok c' = rw e at h in
        let is : c' ≡ object (add_member ms t v) = cc in
        rw (is, drop_member-add ms t v e) refl
member_back v t _ c' none h = cc

-- an act below some tokens that is taken back in its container is taken back
below_back : (act : Act) (t : Token) (path : Path) (d d' : Document) → below act t path d ≡ Ok d'
    → ((c c' : Document) → walk d (parent t path) ≡ Ok c → act (last t path) c ≡ Ok c'
    → drop_child (last t path) c' ≡ Ok c) → below drop_child t path d' ≡ Ok d
below_back act t [] d d' h back = back d d' refl h
below_back act t (u ∷ path) d d' h back =
    let w = was_inside (below act u path) t d d' h in
    let deep : below drop_child u path w.later ≡ Ok w.before =
    below_back act u path w.before w.later w.changed (λ c c' there acted.
    back c c' (rw w.stood there) acted) in
    let there : step d' t ≡ Ok w.later = step-was_inside (below act u path) t d d' w in
    let made : with_child d' t w.before ≡ d =
    ap (λ x. with_child x t w.before) w.whole ∙ with_child-twice d t w.later w.before
    ∙ with_child-same d t w.before (child_reached d t w.before w.stood) in
    rw (there, deep) (ap Ok made)

pub list_back : (v : Document) (path : Path) (d d' : Document)
    → at_path (in_list (insert_child v)) path d ≡ Ok d' → at_path drop_child path d' ≡ Ok d
list_back v [] d d' h = cc
list_back v (t ∷ path) d d' h =
    below_back (in_list (insert_child v)) t path d d' h (λ c c' there acted.
    item_back v (last t path) c c' acted)

pub object_back : (v : Document) (path : Path) (d d' : Document) → at d path ≡ None
    → at_path (in_object (insert_child v)) path d ≡ Ok d' → at_path drop_child path d' ≡ Ok d
object_back v [] d d' none h = cc
object_back v (t ∷ path) d d' none h =
    below_back (in_object (insert_child v)) t path d d' h (λ c c' there acted.
    member_back v (last t path) c c' (sym (at_last d c t path there) ∙ none) acted)

-- A change that only puts a value at a path, taken back.

pub exchange_back : (path : Path) (v d d' w : Document) → at d path ≡ Some w
    → replaced path v d ≡ Ok d' → undone (undo_of_put path (Some w)) d' ≡ d
exchange_back path v d d' w there h =
    let r = replaced-is path v d d' h in
    rw r.2 (put-back d path w v there)

-- a value that was inserted and replaced none, dropped again
copy_dropped : (item : Bool) (path : Path) (v d d' : Document)
    → (if item then None else at d path) ≡ None → inserted_at item path v d ≡ Ok d'
    → at_path drop_child path d' ≡ Ok d
copy_dropped true path v d d' none h = list_back v path d d' h
copy_dropped false [] v d d' none h = cc
copy_dropped false (t ∷ path) v d d' none h = object_back v (t ∷ path) d d' none h

copy_back : (item : Bool) (path : Path) (v d d' : Document)
    → (if item then None else at d path) ≡ None → inserted_at item path v d ≡ Ok d'
    → undone (undo_of_put path None) d' ≡ d
copy_back item path v d d' none h = rw (copy_dropped item path v d d' none h) refl

displaced_there : (item : Bool) (path : Path) (d w : Document)
    → (if item then None else at d path) ≡ Some w → at d path ≡ Some w
displaced_there true path d w h = cc
displaced_there false path d w h = h

pub copied_back : (place : Place) (v d d' : Document) → inserted place v d ≡ Ok d'
    → undone (undo_of_put place.path (displaced place d)) d' ≡ d
copied_back place v d d' h = go (displaced place d) refl
  where
    go : (o : Option Document) → displaced place d ≡ o → undone (undo_of_put place.path o) d' ≡ d
    go (Some w) e =
        exchange_back place.path v d d' w (displaced_there place.item place.path d w e)
        (sets place v d d' w e h)
    go None e = copy_back place.item place.path v d d' e h

set_back : (path : Path) (v d d' : Document) → replaced path v d ≡ Ok d'
    → undone (undo_of_put path (at d path)) d' ≡ d
set_back path v d d' h =
    let r = replaced-is path v d d' h in rw r.1 (exchange_back path v d d' r.0 r.1 h)

at_target : (path p : Path) (o : Option Document) (d d' : Document) → Some path ≡ Some p
    → undone (undo_of_put path o) d' ≡ d → undone (undo_of_put p o) d' ≡ d
at_target path p o d d' is h =
    let same : path ≡ p = cc in subst (λ q. undone (undo_of_put q o) d' ≡ d) same h

pub change_back : (c : Change) (p : Path) (d d' : Document) → target c ≡ Some p → Makes d c d'
    → undone (undo_of_put p (gone d c)) d' ≡ d
change_back (change.Set path v) p d d' is m =
    at_target path p (at d path) d d' is (set_back path v d d' m)
change_back (change.AddMember path v) p d d' is m =
    at_target path p None d d' is (rw (object_back v path d d' m.0 m.1) refl)
change_back (change.AddItem path v) p d d' is m =
    at_target path p None d d' is (rw (list_back v path d d' m) refl)
change_back (change.Copy from to v) p d d' is m =
    at_target to.path p (displaced to d) d d' is (copied_back to v d d' m.1)
change_back _ p d d' is m = cc

pub undo_of_put-removed : (p : Path) (o : Option Document) → removed_part (undo_of_put p o) ≡ o
undo_of_put-removed p (Some part) = refl
undo_of_put-removed p None = refl

-- Lists of records.

taken_back-more : (d : Document) (kept : List Undo) (k : Undo)
    → taken_back d (kept ++ k ∷ []) ≡ taken_back (undone k d) kept
taken_back-more d [] k = refl
taken_back-more d (x ∷ kept) k = ap (undone x) (taken_back-more d kept k)

-- after a change whose record is kept, taking back gives the same document as before it
pub kept_back : (d d' : Document) (old new : List Undo) (k : Undo) → undone k d' ≡ d
    → new ≡ old ++ k ∷ [] → taken_back d' new ≡ taken_back d old
kept_back d d' old new k back more =
    rw more (taken_back-more d' old k ∙ ap (λ e. taken_back e old) back)

-- the last record is taken back first
pub one_back : (d n w : Document) (all kept : List Undo) (o : Option Undo) (k : Undo) → o ≡ Some k
    → all ≡ kept ++ option_to_list o → n ≡ undone k d → taken_back d all ≡ w → taken_back n kept ≡ w
one_back d n w all kept o k is split new back =
    let whole : all ≡ kept ++ k ∷ [] = rw is at split in
    ap (λ e. taken_back e kept) new ∙ sym (taken_back-more d kept k)
    ∙ sym (ap (taken_back d) whole) ∙ back

-- an exchange results in `put`, whether or not a value was there
pub puts_always : (d n v : Document) (path : Path) (o : Option Document) → o ≡ at d path
    → (IsNone o → n ≡ d) → IfSome o (λ _. n ≡ put d path v) → n ≡ put d path v
puts_always d n v path None is missing found = missing refl ∙ sym (put-missing d path v (sym is))
puts_always d n v path (Some w) is missing found = found

-- A value that is there can be dropped.

pub existing_drops : (r : Result Bool Cause) (path : Path) (d : Document)
    → r ≡ resolve_existing d path
    → is_ok r ≡ true → IsOk (at_path drop_child path d)
existing_drops (Ok b) path d is h = removal_passes path d b (sym is)
existing_drops (Err e) path d is h = cc

pub missing_refuses : (r : Result Bool Cause) (path : Path) (d : Document)
    → r ≡ resolve_existing d path
    → is_ok r ≡ false → (e : Cause) × (at_path drop_child path d ≡ Err e)
missing_refuses (Ok b) path d is h = cc
missing_refuses (Err e) path d is h = (e, removal_refuses path d e (sym is))

-- A value that was put at a path, removed again.

-- what is dropped at a path, as the value there and the rest
pub undoes_insert : (path : Path) (d e v : Document) → walk d path ≡ Ok v
    → at_path drop_child path d ≡ Ok e → Some (v, e) ≡ put_undone None path d
undoes_insert path d e v there went = rw (went, at_reached path d v there) refl

pub undoes_no_insert : (path : Path) (d : Document) (e : Cause) → at_path drop_child path d ≡ Err e
    → None ≡ put_undone None path d
undoes_no_insert path d e fails = rw fails refl

-- an exchange removes the value that was there
pub undoes_exchange : (d n part : Document) (path : Path) (o : Option Document) → o ≡ at d path
    → IfSome o (λ _. n ≡ put d path part)
    → option_map (λ v. (v, n)) o ≡ put_undone (Some part) path d
undoes_exchange d n part path None is new = rw (← is) refl
undoes_exchange d n part path (Some w) is new = rw (← is, new) refl

-- undoing a put gives the value and the document before it
pub put_then_undone : (place : Place) (v d d' : Document) → inserted place v d ≡ Ok d'
    → put_undone (displaced place d) place.path d' ≡ Some (v, d)
put_then_undone place v d d' h = go (displaced place d) refl
  where
    there : at d' place.path ≡ Some v
    there = at_reached place.path d' v (inserted_stands place.item place.path v d d' h)

    go : (o : Option Document) → displaced place d ≡ o → put_undone o place.path d' ≡ Some (v, d)
    go (Some w) e =
        let back =
        exchange_back place.path v d d' w (displaced_there place.item place.path d w e)
        (sets place v d d' w e h) in
        rw there (ap (λ x. Some (v, x)) back)
    go None e = rw (copy_dropped place.item place.path v d d' e h, there) refl

-- what a transfer kept takes it back
pub transfer_then_undone : (r : Reinsertion) (place : Place) (v d d' : Document)
    → inserted place v d ≡ Ok d'
    → transfer_undone r (put_undone (displaced place d) place.path d') d' ≡ reinserted r v d
transfer_then_undone r place v d d' h =
    ap (λ o. transfer_undone r o d') (put_then_undone place v d d' h)

-- The document that results from making a change.
use Rattle.std.proofs.Common.{◌≡◌, [], ◌∷◌, Bool, true, false, not, ◌&&◌, Option, Some, None}
use Rattle.std.proofs.Common.{if◌then◌else◌, Result, Ok, IsOk, refl, sym, ap, subst, ◌∙◌}
use Rattle.std.proofs.Common.{option_and_then}
use Rattle.std.specs.Result.{result_ok}
use Rattle.relay_tree.specs.Document.{Document, list, object}
use Rattle.relay_pointer.specs.Index.{Token, index_of}
use Rattle.relay_pointer.specs.Path.{Path, at}
use Rattle.relay_patch.specs.Walk.{Cause, then_do}
use Rattle.relay_patch.specs.Place.{Place, beside, in_one_list}
use Rattle.relay_patch.specs.Patch.{Act, below, at_path, insert_child, drop_child, added, replaced}
use Rattle.relay_patch.specs.Change.{Change, Makes, Moves, in_list, in_object, placed, dropped}
use Rattle.relay_patch.specs.Change.{inserted, inserted_at}
use Rattle.relay_patch.specs.declared.change.Change.TheVariants as change
use Rattle.relay_patch.specs.Measure.{displaced, gone, is_transfer}
use Rattle.relay_tree.proofs.Outcomes.{is_ok_then, some_ok}
use Rattle.relay_patch.proofs.Parts.{at_index}
use Rattle.relay_patch.proofs.Inside.{was_inside}

-- an act that is restricted to one kind of container, and passes, is the act
list_act : (act : Act) (t : Token) (d d' : Document) → in_list act t d ≡ Ok d' → act t d ≡ Ok d'
list_act act t (list ds) d' h = (at_index act t (list ds) d' (index_of t) h).2
list_act act t _ d' h = cc

object_act : (act : Act) (t : Token) (d d' : Document) → in_object act t d ≡ Ok d' → act t d ≡ Ok d'
object_act act t (object ms) d' h = h
object_act act t _ d' h = cc

pub placed_act : (item : Bool) (act : Act) (t : Token) (d d' : Document)
    → placed item act t d ≡ Ok d' → act t d ≡ Ok d'
placed_act true act = list_act act
placed_act false act = object_act act

below_plain : (f g : Act) → ((t : Token) (d d' : Document) → f t d ≡ Ok d' → g t d ≡ Ok d')
    → (t : Token) (path : Path) (d d' : Document) → below f t path d ≡ Ok d'
    → below g t path d ≡ Ok d'
below_plain f g plain t [] d d' h = plain t d d' h
below_plain f g plain t (u ∷ path) d d' h =
    let w = was_inside (below f u path) t d d' h in
    let acted : below g u path w.before ≡ Ok w.later =
    below_plain f g plain u path w.before w.later w.changed in
    rw (w.stood, acted) (ap Ok (sym w.whole))

pub plainly : (item : Bool) (act : Act) (path : Path) (d d' : Document)
    → at_path (placed item act) path d ≡ Ok d' → at_path act path d ≡ Ok d'
plainly item act [] d d' h = cc
plainly item act (t ∷ path) d d' h =
    below_plain (placed item act) act (placed_act item act) t path d d' h

adds : (item : Bool) (path : Path) (v d d' : Document)
    → at_path (placed item (insert_child v)) path d ≡ Ok d' → added path v d ≡ Ok d'
adds item [] v d d' h = cc
adds item (t ∷ path) v d d' h = plainly item (insert_child v) (t ∷ path) d d' h

pub inserts_plainly : (item : Bool) (path : Path) (v d d' : Document)
    → inserted_at item path v d ≡ Ok d' → added path v d ≡ Ok d'
inserts_plainly true path v d d' h = adds true path v d d' h
inserts_plainly false [] v d d' h = h
inserts_plainly false (t ∷ path) v d d' h = adds false (t ∷ path) v d d' h

-- the result of a change, for any kind of container
abbrev pub made : Document → Change → Result Document Cause
made d (change.Set path v) = replaced path v d
made d (change.AddMember path v) = added path v d
made d (change.AddItem path v) = added path v d
made d (change.DropMember path) = at_path drop_child path d
made d (change.DropItem path) = at_path drop_child path d
made d (change.Move from to v) = then_do (at_path drop_child from.path d) (added to.path v)
made d (change.Copy from to v) = added to.path v d

pub makes_made : (c : Change) (d e : Document) → Makes d c e → made d c ≡ Ok e
makes_made (change.Set path v) d e m = m
makes_made (change.AddMember path v) d e m = adds false path v d e m.1
makes_made (change.AddItem path v) d e m = adds true path v d e m
makes_made (change.DropMember path) d e m = plainly false drop_child path d e m
makes_made (change.DropItem path) d e m = plainly true drop_child path d e m
makes_made (change.Move from to v) d e m =
    let went = plainly from.item drop_child from.path d m.between m.went in
    rw went (inserts_plainly to.item to.path v m.between e m.came)
makes_made (change.Copy from to v) d e m = inserts_plainly to.item to.path v d e m.1

pub makes_so : (c : Change) (d e n : Document) → Makes d c e → made d c ≡ Ok n → Makes d c n
makes_so c d e n m h = let k : Ok e ≡ Ok n = sym (makes_made c d e m) ∙ h in
    let same : e ≡ n = cc in subst (λ x. Makes d c x) same m

-- A change that can be made.

abbrev pub CanMake : Document → Change → Type 0
CanMake d c = (next : Document) × Makes d c next

pub passes_as : (c e : Change) (d : Document) → c ≡ e → CanMake d c → IsOk (made d e)
passes_as c e d is m = rw (← is, makes_made c d m.0 m.1) refl

pub makes_as : (c e : Change) (d n : Document) → c ≡ e → CanMake d c → made d e ≡ Ok n → Makes d c n
makes_as c e d n is m h = makes_so c d m.0 n m.1 (rw is h)

pub moves_as : (c : Change) (d : Document) (from to : Place) (v : Document)
    → c ≡ change.Move from to v → (m : CanMake d c) → Moves d from to v m.0
moves_as c d from to v is m = subst (λ e. Makes d e m.0) is m.1

-- a move that is no transfer is one within a list
pub stays_in_list : (c : Change) (from to : Place) (v : Document) → c ≡ change.Move from to v
    → is_transfer c ≡ false → in_one_list from to ≡ true
stays_in_list c from to v is stays = go (in_one_list from to) (rw is at stays)
  where
    go : (x : Bool) → not x ≡ false → x ≡ true
    go true h = refl
    go false h = cc

-- the result of such a move is what the change makes
pub slid_makes : (c : Change) (d : Document) (from to : Place) (v n : Document)
    → c ≡ change.Move from to v → CanMake d c
    → ((w next : Document) → Moves d from to w next → n ≡ next) → Makes d c n
slid_makes c d from to v n is m made =
    subst (λ e. Makes d c e) (sym (made v m.0 (moves_as c d from to v is m))) m.1

-- such a move removes and replaces nothing
pub slid_gone : (c : Change) (d : Document) (from to : Place) (v : Document)
    → c ≡ change.Move from to v → is_transfer c ≡ false → None ≡ gone d c
slid_gone c d from to v is stays =
    rw is (go from.item to.item (beside from.path to.path) (stays_in_list c from to v is stays)
    (result_ok (at_path drop_child from.path d)))
  where
    go : (x y z : Bool) → (x && y && z) ≡ true → (r : Option Document)
        → None ≡ option_and_then (λ e. if y then None else at e to.path) r
    go true true z h None = refl
    go true true z h (Some e) = refl
    go true false z h r = cc
    go false y z h r = cc

-- the value that a moved one replaces, in the document without the moved one
pub move_gone : (c : Change) (d : Document) (from to : Place) (v b : Document)
    → c ≡ change.Move from to v → dropped from d ≡ Ok b → displaced to b ≡ gone d c
move_gone c d from to v b is went = rw (is, plainly from.item drop_child from.path d b went) refl

pub move_made : (c : Change) (d : Document) (from to : Place) (v b n : Document)
    → c ≡ change.Move from to v → CanMake d c → dropped from d ≡ Ok b → inserted to v b ≡ Ok n
    → Makes d c n
move_made c d from to v b n is m went came =
    makes_as c (change.Move from to v) d n is m
    (rw (plainly from.item drop_child from.path d b went)
    (inserts_plainly to.item to.path v b n came))

-- The result of a removal or an insertion, for any kind of container.

pub drops_plainly : (item : Bool) (path : Path) (d : Document)
    → IsOk (at_path (placed item drop_child) path d) → IsOk (at_path drop_child path d)
drops_plainly item path d h = let s = some_ok _ h in
    is_ok_then _ s.0 (plainly item drop_child path d s.0 s.1)

pub drops_so : (item : Bool) (path : Path) (d n : Document)
    → IsOk (at_path (placed item drop_child) path d) → at_path drop_child path d ≡ Ok n
    → at_path (placed item drop_child) path d ≡ Ok n
drops_so item path d n h plain =
    let s = some_ok _ h in
    let whole : Ok s.0 ≡ Ok n = sym (plainly item drop_child path d s.0 s.1) ∙ plain in
    s.1 ∙ whole

pub inserts_so : (place : Place) (v d n : Document) → IsOk (inserted place v d)
    → added place.path v d ≡ Ok n → inserted place v d ≡ Ok n
inserts_so place v d n h plain =
    let s = some_ok _ h in
    let whole : Ok s.0 ≡ Ok n = sym (inserts_plainly place.item place.path v d s.0 s.1) ∙ plain in
    s.1 ∙ whole

-- One change, seen from a pointer.
use Rattle.std.proofs.Common.{◌≡◌, [], ◌∷◌, length, drop, Bool, true, false, ◌&&◌, Ok, refl, sym}
use Rattle.std.proofs.Common.{subst, subst₂, ◌∙◌, bytes_eq, if◌then◌else◌}
use Rattle.std.proofs.lemmas.Slice.Eq.{bytes_eq-Decides}
use Rattle.relay_tree.specs.Document.{Document}
use Rattle.relay_tree.proofs.Names.{equal_bytes}
use Rattle.relay_pointer.specs.Index.{Token}
use Rattle.relay_pointer.specs.Path.{Path, is_prefix, is_proper_prefix, same_path}
use Rattle.relay_patch.specs.Walk.{step, walk}
use Rattle.relay_patch.specs.declared.change.Place.{Place}
use Rattle.relay_patch.specs.Place.{place_of}
use Rattle.relay_patch.specs.declared.op.Op.{Op}
use Rattle.relay_patch.specs.declared.op.Op.TheVariants.{Add, Remove, Replace, Move, Copy}
use Rattle.relay_patch.specs.Patch.{Act, below, at_path, drop_child, insert_child, set_child, added}
use Rattle.relay_patch.specs.Patch.{replaced, effect}
use Rattle.relay_patch.specs.declared.change.Change.{Change}
use Rattle.relay_patch.specs.Change.{Makes, Moves, placed, inserted_at}
use Rattle.relay_patch.specs.declared.change.Change.TheVariants as change
use Rattle.relay_patch.proofs.Refusals.{then_ok}
use Rattle.relay_patch.proofs.Carried.{plainly}
use Rattle.relay_patch.proofs.Sites.{place_of-plain}
use Rattle.relay_patch.proofs.Moved.{DidMove, from_moved}
use Rattle.relay_translate.specs.Touch.{Touch, Apart, Inside, Reset, touch_path, touch_place}
use Rattle.relay_translate.specs.Touch.{touch_either, touch_below, touch_value}
use Rattle.relay_translate.specs.Translate.{op_of, move_op, with_paths}
use Rattle.relay_translate.proofs.Leaves.{Leaves, set_child_leaves, insert_in_object_leaves}
use Rattle.relay_translate.proofs.Leaves.{insert_in_list_leaves, drop_in_object_leaves}
use Rattle.relay_translate.proofs.Leaves.{drop_in_list_leaves}
use Rattle.relay_translate.proofs.Below.{IsInside, below_apart, below_inside, last_never_inside}
use Rattle.relay_translate.proofs.Under.{Longer, IsDeep}

-- what an operation did to the value that a pointer leads to
pub record ChangedInside (q : Path) (op : Op) (d d' : Document) : Type 0 where
  pub before : Document
  pub later : Document
  pub stood : walk d q ≡ Ok before
  pub stands : walk d' q ≡ Ok later
  pub deep : IsDeep (with_paths (drop (length q)) op)
  pub acted : effect before (with_paths (drop (length q)) op) ≡ Ok later

at_path_inside : (is_item : Bool) (act : Act) (path q : Path) (d d' : Document)
    → at_path (placed is_item act) path d ≡ Ok d' → touch_path is_item path q ≡ Inside
    → IsInside (placed is_item act) path q d d'
at_path_inside is_item act [] q d d' h k = cc
at_path_inside is_item act (t ∷ path) q d d' h k =
    below_inside is_item (placed is_item act) t path q d d' h k

-- the same for any container
in_any : (is_item : Bool) (act : Act) (path q : Path) (d d' : Document)
    → IsInside (placed is_item act) path q d d' → IsInside act path q d d'
in_any is_item act path q d d' a =
    record {
      before = a.before;
      later = a.later;
      stood = a.stood;
      stands = a.stands;
      token = a.token;
      rest = a.rest;
      path_is = a.path_is;
      acted = plainly is_item act (a.token ∷ a.rest) a.before a.later a.acted;
    }

set_inside : (path q : Path) (v d d' : Document) → replaced path v d ≡ Ok d'
    → touch_path false path q ≡ Inside → IsInside (set_child v) path q d d'
set_inside [] q v d d' h k = cc
set_inside (t ∷ path) q v d d' h k = below_inside false (set_child v) t path q d d' h k

insert_inside : (is_item : Bool) (path q : Path) (v d d' : Document)
    → inserted_at is_item path v d ≡ Ok d' → touch_path is_item path q ≡ Inside
    → IsInside (placed is_item (insert_child v)) path q d d'
insert_inside true path q v d d' h k = at_path_inside true (insert_child v) path q d d' h k
insert_inside false [] q v d d' h k = cc
insert_inside false (t ∷ path) q v d d' h k =
    at_path_inside false (insert_child v) (t ∷ path) q d d' h k

-- the same for an operation that performs an act there
acted_there : (op : Op) (act : Act) (path q : Path) (d d' : Document) (a : IsInside act path q d d')
    → IsDeep (with_paths (drop (length q)) op)
    → effect a.before (with_paths (drop (length q)) op) ≡ Ok a.later → ChangedInside q op d d'
acted_there op act path q d d' a deep acted =
    record {
      before = a.before;
      later = a.later;
      stood = a.stood;
      stands = a.stands;
      deep = deep;
      acted = acted;
    }

replace_there : (path q : Path) (v d d' : Document) → IsInside (set_child v) path q d d'
    → ChangedInside q (Replace path v) d d'
replace_there path q v d d' a =
    acted_there (Replace path v) (set_child v) path q d d' a (subst Longer (sym a.path_is) tt)
    (subst (λ r. replaced r v a.before ≡ Ok a.later) (sym a.path_is) a.acted)

add_there : (is_item : Bool) (path q : Path) (v d d' : Document)
    → IsInside (placed is_item (insert_child v)) path q d d' → ChangedInside q (Add path v) d d'
add_there is_item path q v d d' p =
    let a = in_any is_item (insert_child v) path q d d' p in
    acted_there (Add path v) (insert_child v) path q d d' a (subst Longer (sym a.path_is) tt)
    (subst (λ r. added r v a.before ≡ Ok a.later) (sym a.path_is) a.acted)

remove_there : (is_item : Bool) (path q : Path) (d d' : Document)
    → IsInside (placed is_item drop_child) path q d d' → ChangedInside q (Remove path) d d'
remove_there is_item path q d d' p =
    let a = in_any is_item drop_child path q d d' p in
    acted_there (Remove path) drop_child path q d d' a (subst Longer (sym a.path_is) tt)
    (subst (λ r. at_path drop_child r a.before ≡ Ok a.later) (sym a.path_is) a.acted)

-- the same from another document in which the pointer leads to the same value
changed_from : (q : Path) (op : Op) (d e d' : Document) → walk e q ≡ walk d q
    → ChangedInside q op e d' → ChangedInside q op d d'
changed_from q op d e d' same c =
    record {
      before = c.before;
      later = c.later;
      stood = sym same ∙ c.stood;
      stands = c.stands;
      deep = c.deep;
      acted = c.acted;
    }

changed_to : (q : Path) (op : Op) (d e d' : Document) → walk d' q ≡ walk e q
    → ChangedInside q op d e → ChangedInside q op d d'
changed_to q op d e d' same c =
    record {
      before = c.before;
      later = c.later;
      stood = c.stood;
      stands = same ∙ c.stands;
      deep = c.deep;
      acted = c.acted;
    }

-- prefixes

below_prefix : (is_item : Bool) (t : Token) (path q : Path) → touch_below is_item t path q ≡ Inside
    → is_prefix q (t ∷ path) ≡ true
below_prefix is_item t path [] k = refl
below_prefix is_item t [] (b ∷ q) k = absurd (last_never_inside is_item t b k)
below_prefix is_item t (u ∷ path) (b ∷ q) k = go (bytes_eq t b) refl (below_prefix is_item u path q)
  where
    go : (x : Bool) → bytes_eq t b ≡ x
        → (touch_below is_item u path q ≡ Inside → is_prefix q (u ∷ path) ≡ true)
        → is_prefix (b ∷ q) (t ∷ u ∷ path) ≡ true
    go true e ih =
        let same : bytes_eq b t ≡ true = (bytes_eq-Decides b t).1 (sym (equal_bytes t b e)) in
        let within : touch_below is_item u path q ≡ Inside = rw e at k in
        rw same (ih within)
    go false e ih = let apart : Apart ≡ Inside = rw e at k in cc

pub inside_prefix : (is_item : Bool) (path q : Path) → touch_path is_item path q ≡ Inside
    → is_prefix q path ≡ true
inside_prefix is_item [] q k = cc
inside_prefix is_item (t ∷ path) q k = below_prefix is_item t path q k

both : (a b : Bool) → (a && b) ≡ true → (a ≡ true) × (b ≡ true)
both true b h = (refl, h)
both false b h = cc

pub walk_on : (q path : Path) (d b : Document) → is_prefix q path ≡ true → walk d q ≡ Ok b
    → walk b (drop (length q) path) ≡ walk d path
walk_on [] path d b p h = let same : d ≡ b = cc in rw same refl
walk_on (t ∷ q) [] d b p h = cc
walk_on (t ∷ q) (u ∷ path) d b p h =
    let parts = both (bytes_eq t u) (is_prefix q path) p in
    let same : t ≡ u = equal_bytes t u parts.0 in
    let s = then_ok (step d t) (λ c. walk c q) b h in
    let stood : step d u ≡ Ok s.0 = subst (λ x. step d x ≡ Ok s.0) same s.1 in
    rw stood (walk_on q path s.0 b parts.1 s.2)

pub proper_prefix_on : (q f p : Path) → is_prefix q f ≡ true → is_prefix q p ≡ true
    → is_proper_prefix (drop (length q) f) (drop (length q) p) ≡ is_proper_prefix f p
proper_prefix_on [] f p h k = refl
proper_prefix_on (t ∷ q) (u ∷ f) (w ∷ p) h k =
    let a = both (bytes_eq t u) (is_prefix q f) h in
    let b = both (bytes_eq t w) (is_prefix q p) k in
    let same : bytes_eq u w ≡ true = subst (λ x. bytes_eq x w ≡ true) (equal_bytes t u a.0) b.0 in
    rw same (proper_prefix_on q f p a.1 b.1)
proper_prefix_on (t ∷ q) _ _ h k = cc

pub same_path_on : (q f p : Path) → is_prefix q f ≡ true → is_prefix q p ≡ true
    → same_path (drop (length q) f) (drop (length q) p) ≡ same_path f p
same_path_on [] f p h k = refl
same_path_on (t ∷ q) (u ∷ f) (w ∷ p) h k =
    let a = both (bytes_eq t u) (is_prefix q f) h in
    let b = both (bytes_eq t w) (is_prefix q p) k in
    let same : bytes_eq u w ≡ true = subst (λ x. bytes_eq x w ≡ true) (equal_bytes t u a.0) b.0 in
    rw same (same_path_on q f p a.1 b.1)
same_path_on (t ∷ q) _ _ h k = cc

-- a change that is apart

apart_below : (is_item : Bool) (act : Act) → Leaves is_item (placed is_item act)
    → (path q : Path) (d d' : Document) → at_path (placed is_item act) path d ≡ Ok d'
    → touch_path is_item path q ≡ Apart → walk d' q ≡ walk d q
apart_below is_item act leaves [] q d d' h k = cc
apart_below is_item act leaves (t ∷ path) q d d' h k =
    below_apart is_item (placed is_item act) leaves t path q d d' h k

set_apart : (path q : Path) (v d d' : Document) → replaced path v d ≡ Ok d'
    → touch_path false path q ≡ Apart → walk d' q ≡ walk d q
set_apart [] q v d d' h k = cc
set_apart (t ∷ path) q v d d' h k =
    below_apart false (set_child v) (set_child_leaves v) t path q d d' h k

insert_apart : (is_item : Bool) (path q : Path) (v d d' : Document)
    → inserted_at is_item path v d ≡ Ok d' → touch_path is_item path q ≡ Apart
    → walk d' q ≡ walk d q
insert_apart true path q v d d' h k =
    apart_below true (insert_child v) (insert_in_list_leaves v) path q d d' h k
insert_apart false [] q v d d' h k = cc
insert_apart false (t ∷ path) q v d d' h k =
    apart_below false (insert_child v) (insert_in_object_leaves v) (t ∷ path) q d d' h k

drop_apart : (is_item : Bool) (path q : Path) (d d' : Document)
    → at_path (placed is_item drop_child) path d ≡ Ok d' → touch_path is_item path q ≡ Apart
    → walk d' q ≡ walk d q
drop_apart true = apart_below true drop_child drop_in_list_leaves
drop_apart false = apart_below false drop_child drop_in_object_leaves

pub both_apart : (a b : Touch) → touch_either a b ≡ Apart → (a ≡ Apart) × (b ≡ Apart)
both_apart Apart b h = (refl, h)
both_apart Inside Apart h = cc
both_apart Inside Inside h = cc
both_apart Inside Reset h = cc
both_apart Reset b h = cc

pub change_apart : (c : Change) (q : Path) (d d' : Document) → Makes d c d'
    → touch_value c q ≡ Apart → walk d' q ≡ walk d q
change_apart (change.Set path v) q d d' m k = set_apart path q v d d' m k
change_apart (change.AddMember path v) q d d' m k =
    apart_below false (insert_child v) (insert_in_object_leaves v) path q d d' m.1 k
change_apart (change.AddItem path v) q d d' m k =
    apart_below true (insert_child v) (insert_in_list_leaves v) path q d d' m k
change_apart (change.DropMember path) q d d' m k = drop_apart false path q d d' m k
change_apart (change.DropItem path) q d d' m k = drop_apart true path q d d' m k
change_apart (change.Move from to v) q d d' m k =
    let apart = both_apart (touch_place from q) (touch_place to q) k in
    insert_apart to.item to.path q v m.between d' m.came apart.1
    ∙ drop_apart from.item from.path q d m.between m.went apart.0
change_apart (change.Copy from to v) q d d' m k = insert_apart to.item to.path q v d d' m.1 k

-- a change inside

moved_within : (from to : Place) (q : Path) (v d d' : Document) → (m : Moves d from to v d')
    → touch_place from q ≡ Inside → touch_place to q ≡ Inside
    → IsInside (placed from.item drop_child) from.path q d m.between
    → IsInside (placed to.item (insert_child v)) to.path q m.between d'
    → ChangedInside q (Move from.path to.path) d d'
unfolding in_any
moved_within from to q v d d' m a b drop_in insert_in =
    let drops = in_any from.item drop_child from.path q d m.between drop_in in
    let inserts = in_any to.item (insert_child v) to.path q m.between d' insert_in in
    let f = inside_prefix from.item from.path q a in
    let t = inside_prefix to.item to.path q b in
    let same : inserts.before ≡ drops.later = let x = inserts.stood in let y = drops.stands in cc in
    let place : (place_of drops.later (inserts.token ∷ inserts.rest)).path ≡ inserts.token
    ∷ inserts.rest =
    place_of-plain to.item (insert_child v) inserts.token inserts.rest drops.later inserts.later
    (subst (λ x. below (placed to.item (insert_child v)) inserts.token inserts.rest x
    ≡ Ok inserts.later) same insert_in.acted)
    in
    let elsewhere : same_path (drops.token ∷ drops.rest) (inserts.token ∷ inserts.rest) ≡ false =
    subst₂ (λ r s. same_path r s ≡ false) drops.path_is inserts.path_is
    (same_path_on q from.path to.path f t ∙ m.elsewhere)
    in
    let did : DidMove drops.token drops.rest
    (inserts.token ∷ inserts.rest) drops.before inserts.later =
    record {
      value = v;
      between = drops.later;
      there = subst (λ r. walk drops.before r ≡ Ok v) drops.path_is
          (walk_on q from.path d drops.before f drops.stood ∙ m.there);
      outside = subst₂ (λ r s. is_proper_prefix r s ≡ false) drops.path_is inserts.path_is
          (proper_prefix_on q from.path to.path f t ∙ m.outside);
      went = drops.acted;
      came = rw (place, elsewhere)
          (subst (λ x. below (insert_child v) inserts.token inserts.rest x ≡ Ok inserts.later) same
          inserts.acted);
    } in
    record {
      before = drops.before;
      later = inserts.later;
      stood = drops.stood;
      stands = inserts.stands;
      deep = (subst Longer (sym drops.path_is) tt, subst Longer (sym inserts.path_is) tt);
      acted = subst₂ (λ r s. effect drops.before (Move r s) ≡ Ok inserts.later) (sym drops.path_is)
          (sym inserts.path_is)
          (from_moved drops.token drops.rest
          (inserts.token ∷ inserts.rest) drops.before inserts.later did);
    }

move_inside : (a b : Touch) (from to : Place) (q : Path) (v d d' : Document) → Moves d from to v d'
    → touch_place from q ≡ a → touch_place to q ≡ b → touch_either a b ≡ Inside
    → ChangedInside q (move_op a b from.path to.path v) d d'
move_inside Apart b from to q v d d' m e f k =
    changed_from q (Add to.path v) d m.between d'
    (drop_apart from.item from.path q d m.between m.went e)
    (add_there to.item to.path q v m.between d'
    (insert_inside to.item to.path q v m.between d' m.came (f ∙ k)))
move_inside Inside Apart from to q v d d' m e f k =
    changed_to q (Remove from.path) d m.between d'
    (insert_apart to.item to.path q v m.between d' m.came f)
    (remove_there from.item from.path q d m.between
    (at_path_inside from.item drop_child from.path q d m.between m.went e))
move_inside Inside Inside from to q v d d' m e f k =
    moved_within from to q v d d' m e f
    (at_path_inside from.item drop_child from.path q d m.between m.went e)
    (insert_inside to.item to.path q v m.between d' m.came f)
move_inside _ _ from to q v d d' m e f k = cc

copied_within : (from : Path) (to : Place) (q : Path) (v d d' : Document) → walk d from ≡ Ok v
    → is_prefix q from ≡ true → IsInside (placed to.item (insert_child v)) to.path q d d'
    → ChangedInside q (Copy from to.path) d d'
copied_within from to q v d d' there p insert_in =
    let inserts = in_any to.item (insert_child v) to.path q d d' insert_in in
    let found : walk inserts.before (drop (length q) from) ≡ Ok v =
    walk_on q from d inserts.before p inserts.stood ∙ there in
    acted_there (Copy from to.path) (insert_child v) to.path q d d' inserts
    (subst Longer (sym inserts.path_is) tt)
    (subst (λ s. effect inserts.before (Copy (drop (length q) from) s) ≡ Ok inserts.later)
    (sym inserts.path_is) (rw found inserts.acted))

copy_inside : (x : Bool) (from : Path) (to : Place) (q : Path) (v d d' : Document)
    → is_prefix q from ≡ x → walk d from ≡ Ok v
    → IsInside (placed to.item (insert_child v)) to.path q d d'
    → ChangedInside q (if x then Copy from to.path else Add to.path v) d d'
copy_inside true from to q v d d' p there inserts = copied_within from to q v d d' there p inserts
copy_inside false from to q v d d' p there inserts = add_there to.item to.path q v d d' inserts

pub change_inside : (c : Change) (q : Path) (d d' : Document) → Makes d c d'
    → touch_value c q ≡ Inside → ChangedInside q (op_of q c) d d'
change_inside (change.Set path v) q d d' m k =
    replace_there path q v d d' (set_inside path q v d d' m k)
change_inside (change.AddMember path v) q d d' m k =
    add_there false path q v d d' (at_path_inside false (insert_child v) path q d d' m.1 k)
change_inside (change.AddItem path v) q d d' m k =
    add_there true path q v d d' (at_path_inside true (insert_child v) path q d d' m k)
change_inside (change.DropMember path) q d d' m k =
    remove_there false path q d d' (at_path_inside false drop_child path q d d' m k)
change_inside (change.DropItem path) q d d' m k =
    remove_there true path q d d' (at_path_inside true drop_child path q d d' m k)
change_inside (change.Move from to v) q d d' m k =
    move_inside (touch_place from q) (touch_place to q) from to q v d d' m refl refl k
change_inside (change.Copy from to v) q d d' m k =
    copy_inside (is_prefix q from) from to q v d d' refl m.0
    (insert_inside to.item to.path q v d d' m.1 k)

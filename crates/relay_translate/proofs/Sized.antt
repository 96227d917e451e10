-- A change that is apart from the size of a value leaves the size unchanged.
use Rattle.std.proofs.Common.{◌≡◌, ℕ, suc, ◌+◌, ◌==◌, List, [], ◌∷◌, length, drop, Bool, true}
use Rattle.std.proofs.Common.{false, Option, Some, None, Result, Ok, option_map, option_and_then}
use Rattle.std.proofs.Common.{refl, sym, ap, ◌∙◌, arith, bytes_eq, length-drop, if◌then◌else◌}
use Rattle.std.proofs.lemmas.Bool.Decides.{nat_tests}
use Rattle.std.specs.Result.{result_ok}
use Rattle.relay_tree.specs.Document.{Document, list, object, Items, item, Members, no_members}
use Rattle.relay_tree.specs.Document.{member}
use Rattle.relay_tree.specs.Part.{items_length, put_item, set_member}
use Rattle.relay_pointer.specs.Index.{Token, index_of}
use Rattle.relay_pointer.specs.Path.{Path, at, put_element, with_child}
use Rattle.relay_patch.specs.declared.fault.Cause.{Cause}
use Rattle.relay_patch.specs.Walk.{walk}
use Rattle.relay_patch.specs.Patch.{Act, below, at_path, inside, drop_child, insert_child}
use Rattle.relay_patch.specs.Patch.{set_child, replaced}
use Rattle.relay_patch.specs.Change.{Makes, placed, inserted_at}
use Rattle.relay_patch.specs.declared.change.Change.{Change}
use Rattle.relay_patch.specs.declared.change.Change.TheVariants as change
use Rattle.relay_patch.proofs.Walks.{at-walk, at_reached}
use Rattle.relay_patch.proofs.Inside.{was_inside}
use Rattle.relay_view.specs.View.{members_length, size, counted, shown}
use Rattle.relay_view.specs.declared.slot.SlotKind.TheVariants.{Size}
use Rattle.relay_translate.specs.Touch.{Touch, Apart, Inside, Reset, touch_below, touch_path}
use Rattle.relay_translate.specs.Touch.{touch_either, part_touch, size_touch, exchange_touch}
use Rattle.relay_translate.specs.Touch.{touch_place_size, touch_size}
use Rattle.relay_translate.proofs.Leaves.{Leaves, set_child_leaves, insert_in_object_leaves}
use Rattle.relay_translate.proofs.Leaves.{insert_in_list_leaves, drop_in_object_leaves}
use Rattle.relay_translate.proofs.Leaves.{drop_in_list_leaves}
use Rattle.relay_translate.proofs.Below.{below_apart, below_inside}
use Rattle.relay_translate.proofs.Changes.{both_apart}

-- Replacing a part, or changing something within one, leaves the number of parts unchanged.

items_length-put_item : (ds : Items) (i : ℕ) (e : Document)
    → items_length (put_item ds i e) ≡ items_length ds
items_length-put_item (item d ds) (suc i) e = ap suc (items_length-put_item ds i e)
items_length-put_item _ _ e = refl

members_length-set_member : (ms : Members) (name : List ℕ) (e : Document)
    → members_length (set_member ms name e) ≡ members_length ms
members_length-set_member no_members name e = refl
members_length-set_member (member n d ms) name e =
    go (bytes_eq n name) (members_length-set_member ms name e)
  where
    go : (x : Bool) → members_length (set_member ms name e) ≡ members_length ms
        → members_length (if x then member n e ms else member n d (set_member ms name e))
        ≡ suc (members_length ms)
    go true rest = refl
    go false rest = ap suc rest

size-with_child : (d : Document) (t : Token) (c : Document) → size (with_child d t c) ≡ size d
size-with_child (list ds) t c = go (index_of t)
  where
    go : (o : Option ℕ) → size (list (put_element ds o c)) ≡ size (list ds)
    go None = refl
    go (Some i) = ap Some (items_length-put_item ds i c)
size-with_child (object ms) t c = ap Some (members_length-set_member ms t c)
size-with_child _ t c = refl

size-inside : (change : Document → Result Document Cause) (t : Token) (d d' : Document)
    → inside change t d ≡ Ok d' → size d' ≡ size d
size-inside change t d d' h = let w = was_inside change t d d' h in
    rw w.whole (size-with_child d t w.later)

-- Seen from a pointer.

-- the values at the pointer q have the same size in both documents
abbrev pub SameSize : Path → Document → Document → Type 0
SameSize q d d' = option_and_then (shown Size) (at d' q) ≡ option_and_then (shown Size) (at d q)

same_walk : (q : Path) (d d' : Document) → walk d' q ≡ walk d q → SameSize q d d'
same_walk q d d' h =
    ap (option_and_then (shown Size)) (sym (at-walk q d') ∙ (ap result_ok h ∙ at-walk q d))

same_sizes : (q : Path) (d d' v v' : Document) → walk d q ≡ Ok v → walk d' q ≡ Ok v'
    → size v' ≡ size v → SameSize q d d'
same_sizes q d d' v v' stood stands same =
    rw (at_reached q d v stood, at_reached q d' v' stands) (ap (option_map counted) same)

-- an act below a part of the value
deeper_keeps : (act : Act) (t : Token) (path q : Path) (token : Token) (rest : Path)
    (v v' : Document) → drop (length q) (t ∷ path) ≡ token ∷ rest
    → part_touch (t ∷ path) q ≡ Apart → below act token rest v ≡ Ok v' → size v' ≡ size v
deeper_keeps act t path q token [] v v' is apart acted =
    let count : length (t ∷ path) ≡ length q + 1 =
    omega (arith, ap length is, length-drop (length q) (t ∷ path)) in
    let test : (length (t ∷ path) == length q + 1) ≡ true = grind (arith, nat_tests) in
    let reset : Reset ≡ Apart = rw test at apart in
    absurd cc
deeper_keeps act t path q token (u ∷ rest) v v' is apart acted =
    size-inside (below act u rest) token v v' acted

-- an act at a place
place_keeps : (is_item : Bool) (act : Act) → Leaves is_item (placed is_item act)
    → (path q : Path) (d d' : Document) → at_path (placed is_item act) path d ≡ Ok d'
    → size_touch path q (touch_path is_item path q) ≡ Apart → SameSize q d d'
place_keeps is_item act leaves [] q d d' h k = cc
place_keeps is_item act leaves (t ∷ path) q d d' h k = go (touch_below is_item t path q) refl k
  where
    go : (x : Touch) → touch_below is_item t path q ≡ x → size_touch (t ∷ path) q x ≡ Apart
        → SameSize q d d'
    go Apart e j =
        same_walk q d d' (below_apart is_item (placed is_item act) leaves t path q d d' h e)
    go Inside e j =
        let i = below_inside is_item (placed is_item act) t path q d d' h e in
        same_sizes q d d' i.before i.later i.stood i.stands
        (deeper_keeps
        (placed is_item act) t path q i.token i.rest i.before i.later i.path_is j i.acted)
    go Reset e j = cc

insert_keeps : (is_item : Bool) (path q : Path) (v d d' : Document)
    → inserted_at is_item path v d ≡ Ok d' → size_touch path q (touch_path is_item path q) ≡ Apart
    → SameSize q d d'
insert_keeps true path q v d d' h k =
    place_keeps true (insert_child v) (insert_in_list_leaves v) path q d d' h k
insert_keeps false [] q v d d' h k = cc
insert_keeps false (t ∷ path) q v d d' h k =
    place_keeps false (insert_child v) (insert_in_object_leaves v) (t ∷ path) q d d' h k

drop_keeps : (is_item : Bool) (path q : Path) (d d' : Document)
    → at_path (placed is_item drop_child) path d ≡ Ok d'
    → size_touch path q (touch_path is_item path q) ≡ Apart → SameSize q d d'
drop_keeps true = place_keeps true drop_child drop_in_list_leaves
drop_keeps false = place_keeps false drop_child drop_in_object_leaves

-- a replacement
size-set : (v : Document) (t : Token) (path : Path) (d d' : Document)
    → below (set_child v) t path d ≡ Ok d' → size d' ≡ size d
size-set v t [] d d' h = size-inside (λ c. Ok v) t d d' h
size-set v t (u ∷ path) d d' h = size-inside (below (set_child v) u path) t d d' h

exchange_keeps : (path q : Path) (v d d' : Document) → replaced path v d ≡ Ok d'
    → exchange_touch (touch_path false path q) ≡ Apart → SameSize q d d'
exchange_keeps [] q v d d' h k = cc
exchange_keeps (t ∷ path) q v d d' h k = go (touch_below false t path q) refl k
  where
    go : (x : Touch) → touch_below false t path q ≡ x → exchange_touch x ≡ Apart → SameSize q d d'
    go Apart e j =
        same_walk q d d' (below_apart false (set_child v) (set_child_leaves v) t path q d d' h e)
    go Inside e j =
        let i = below_inside false (set_child v) t path q d d' h e in
        same_sizes q d d' i.before i.later i.stood i.stands
        (size-set v i.token i.rest i.before i.later i.acted)
    go Reset e j = cc

pub change_keeps_size : (c : Change) (q : Path) (d d' : Document) → Makes d c d'
    → touch_size c q ≡ Apart → SameSize q d d'
change_keeps_size (change.Set path v) q d d' m k = exchange_keeps path q v d d' m k
change_keeps_size (change.AddMember path v) q d d' m k =
    place_keeps false (insert_child v) (insert_in_object_leaves v) path q d d' m.1 k
change_keeps_size (change.AddItem path v) q d d' m k =
    place_keeps true (insert_child v) (insert_in_list_leaves v) path q d d' m k
change_keeps_size (change.DropMember path) q d d' m k = drop_keeps false path q d d' m k
change_keeps_size (change.DropItem path) q d d' m k = drop_keeps true path q d d' m k
change_keeps_size (change.Move from to v) q d d' m k =
    let apart = both_apart (touch_place_size from q) (touch_place_size to q) k in
    insert_keeps to.item to.path q v m.between d' m.came apart.1
    ∙ drop_keeps from.item from.path q d m.between m.went apart.0
change_keeps_size (change.Copy from to v) q d d' m k = insert_keeps to.item to.path q v d d' m.1 k

-- No change is inside a size.

never_inside : (path q : Path) (t : Touch) → size_touch path q t ≡ Inside → ⊥
never_inside path q Inside h = go (length path == length q + 1) h
  where
    go : (x : Bool) → (if x then Reset else Apart) ≡ Inside → ⊥
    go true k = cc
    go false k = cc
never_inside path q _ h = cc

exchange_never : (t : Touch) → exchange_touch t ≡ Inside → ⊥
exchange_never Apart h = cc
exchange_never _ h = cc

either_never : (a b : Touch) → (a ≡ Inside → ⊥) → (b ≡ Inside → ⊥) → touch_either a b ≡ Inside → ⊥
either_never Apart b h k e = k e
either_never Inside b h k e = h refl
either_never Reset b h k e = cc

pub size_never_inside : (c : Change) (q : Path) → touch_size c q ≡ Inside → ⊥
size_never_inside (change.Set path v) q h = exchange_never (touch_path false path q) h
size_never_inside (change.AddMember path v) q h = never_inside path q (touch_path false path q) h
size_never_inside (change.AddItem path v) q h = never_inside path q (touch_path true path q) h
size_never_inside (change.DropMember path) q h = never_inside path q (touch_path false path q) h
size_never_inside (change.DropItem path) q h = never_inside path q (touch_path true path q) h
size_never_inside (change.Move from to v) q h =
    either_never (touch_place_size from q) (touch_place_size to q)
    (never_inside from.path q (touch_path from.item from.path q))
    (never_inside to.path q (touch_path to.item to.path q)) h
size_never_inside (change.Copy from to v) q h =
    never_inside to.path q (touch_path to.item to.path q) h

-- Worked edits and the operations that they become on a view, by computation.
use Rattle.std.proofs.Common.{◌≡◌, ℕ, List, [], ◌∷◌, map, pos, Result, Ok, Err, refl, codes, Bool}
use Rattle.std.proofs.Common.{true, false}
use Rattle.std.specs.List.{list_any}
use Rattle.relay_tree.specs.Document.{Document, null, whole, text, list, object, items_of, no_items}
use Rattle.relay_tree.specs.Document.{Members, no_members, member}
use Rattle.relay_tree.specs.Part.{put_member}
use Rattle.relay_pointer.specs.Index.{index_of, index_text}
use Rattle.relay_pointer.specs.Path.{Path}
use Rattle.relay_view.specs.View.{View}
use Rattle.relay_view.specs.declared.slot.Slot.{Slot}
use Rattle.relay_view.specs.declared.slot.SlotKind.TheVariants.{Value, Size}
use Rattle.relay_patch.specs.declared.fault.Cause.{Cause}
use Rattle.relay_patch.specs.declared.op.Op.{Op}
use Rattle.relay_patch.specs.declared.op.Op.TheVariants.{Add, Remove, Replace, Move, Copy}
use Rattle.relay_patch.specs.declared.change.Change.{Change}
use Rattle.relay_patch.specs.declared.change.Change.TheVariants as change
use Rattle.relay_patch.specs.Patch.{effect}
use Rattle.relay_patch.specs.Change.{changes_of}
use Rattle.relay_translate.specs.Translate.{local}
use Rattle.relay_translate.specs.Watches.{is_touched}

abbrev members : List (List ℕ × Document) → Members
members [] = no_members
members (m ∷ ms) = put_member (members ms) m.0 m.1

abbrev num : ℕ → Document
num n = whole (pos n)

abbrev value_slot : Path → Slot
value_slot q = record { pointer = q; kind = Value }

abbrev size_slot : Path → Slot
size_slot q = record { pointer = q; kind = Size }

-- the operations on a view that one operation becomes
abbrev relayed_from : Result Document Cause → Document → Op → View → Result (List Op) Cause
relayed_from (Ok now) d op pointers = Ok (local (changes_of d op) now pointers)
relayed_from (Err e) d op pointers = Err e

abbrev relayed_in : Document → Op → View → Result (List Op) Cause
relayed_in d op = relayed_from (effect d op) d op

-- the same for a view of values
abbrev relayed : Document → Op → List Path → Result (List Op) Cause
relayed d op paths = relayed_in d op (map value_slot paths)

two_items : Document
two_items = object
    (member (codes "items") (list (items_of (text (codes "a") ∷ text (codes "b") ∷ []))) no_members)

before_the_pointer_is_a_reset : relayed two_items
    (Add (codes "items" ∷ codes "0" ∷ []) (text (codes "z")))
    ((codes "items" ∷ codes "1" ∷ []) ∷ [])
    ≡ Ok (Replace (codes "0" ∷ []) (list (items_of (text (codes "a") ∷ []))) ∷ [])
unfolding two_items index_of index_text
before_the_pointer_is_a_reset = refl

within_is_an_insertion : relayed two_items (Add (codes "items" ∷ codes "0" ∷ []) (text (codes "z")))
    ((codes "items" ∷ []) ∷ [])
    ≡ Ok (Add (codes "0" ∷ codes "0" ∷ codes "0" ∷ []) (text (codes "z")) ∷ [])
unfolding two_items index_of index_text
within_is_an_insertion = refl

behind_the_last_counts_elements : relayed two_items
    (Add (codes "items" ∷ codes "-" ∷ []) (text (codes "z"))) ((codes "items" ∷ []) ∷ [])
    ≡ Ok (Add (codes "0" ∷ codes "0" ∷ codes "2" ∷ []) (text (codes "z")) ∷ [])
unfolding two_items index_of index_text
behind_the_last_counts_elements = refl

nested : Document
nested = object
    (members ((codes "a", object (members ((codes "x", num 1) ∷ [])))
    ∷ (codes "b", object no_members) ∷ []))

from_slot_to_slot : relayed nested (Move (codes "a" ∷ codes "x" ∷ []) (codes "b" ∷ codes "y" ∷ []))
    ((codes "a" ∷ []) ∷ (codes "b" ∷ []) ∷ [])
    ≡ Ok (Remove (codes "0" ∷ codes "0" ∷ codes "x" ∷ [])
    ∷ Add (codes "1" ∷ codes "0" ∷ codes "y" ∷ []) (num 1) ∷ [])
unfolding nested index_of index_text
from_slot_to_slot = refl

out_of_the_view_is_a_removal : relayed nested
    (Move (codes "a" ∷ codes "x" ∷ []) (codes "b" ∷ codes "y" ∷ [])) ((codes "a" ∷ []) ∷ [])
    ≡ Ok (Remove (codes "0" ∷ codes "0" ∷ codes "x" ∷ []) ∷ [])
unfolding nested index_of index_text
out_of_the_view_is_a_removal = refl

within_is_a_move : relayed nested (Move (codes "a" ∷ codes "x" ∷ []) (codes "b" ∷ codes "y" ∷ []))
    ([] ∷ []) ≡ Ok
    (Move (codes "0" ∷ codes "0" ∷ codes "a" ∷ codes "x" ∷ [])
    (codes "0" ∷ codes "0" ∷ codes "b" ∷ codes "y" ∷ []) ∷ [])
unfolding nested index_of index_text
within_is_a_move = refl

flat : Document
flat = object
    (members ((codes "a", object (members ((codes "x", num 1) ∷ []))) ∷ (codes "b", num 0) ∷ []))

each_slot_has_its_own : relayed flat (Add (codes "a" ∷ codes "y" ∷ []) (num 2))
    ([] ∷ (codes "a" ∷ []) ∷ [])
    ≡ Ok (Add (codes "0" ∷ codes "0" ∷ codes "a" ∷ codes "y" ∷ []) (num 2)
    ∷ Add (codes "1" ∷ codes "0" ∷ codes "y" ∷ []) (num 2) ∷ [])
unfolding flat index_of index_text
each_slot_has_its_own = refl

aside_is_nothing : relayed flat (Replace (codes "b" ∷ []) (num 1)) ((codes "a" ∷ []) ∷ []) ≡ Ok []
unfolding flat index_of index_text
aside_is_nothing = refl

named_1 : Document
named_1 = object (members ((codes "1", text (codes "p")) ∷ []))

member_beside_is_nothing : relayed named_1 (Add (codes "0" ∷ []) (text (codes "n")))
    ((codes "1" ∷ []) ∷ []) ≡ Ok []
unfolding named_1 index_of index_text
member_beside_is_nothing = refl

copy_from_outside_is_an_insertion : relayed nested
    (Copy (codes "a" ∷ []) (codes "b" ∷ codes "c" ∷ [])) ((codes "b" ∷ []) ∷ [])
    ≡ Ok (Add (codes "0" ∷ codes "0" ∷ codes "c" ∷ []) (object (members ((codes "x", num 1) ∷ [])))
    ∷ [])
unfolding nested index_of index_text
copy_from_outside_is_an_insertion = refl

copy_within_is_a_copy : relayed nested (Copy (codes "a" ∷ []) (codes "b" ∷ codes "c" ∷ []))
    ([] ∷ []) ≡ Ok
    (Copy (codes "0" ∷ codes "0" ∷ codes "a" ∷ [])
    (codes "0" ∷ codes "0" ∷ codes "b" ∷ codes "c" ∷ []) ∷ [])
unfolding nested index_of index_text
copy_within_is_a_copy = refl

copy_of_the_value_is_a_copy : relayed nested (Copy (codes "b" ∷ []) (codes "b" ∷ codes "s" ∷ []))
    ((codes "b" ∷ []) ∷ [])
    ≡ Ok (Copy (codes "0" ∷ codes "0" ∷ []) (codes "0" ∷ codes "0" ∷ codes "s" ∷ []) ∷ [])
unfolding nested index_of index_text
copy_of_the_value_is_a_copy = refl

-- changes alone

three_items : Document
three_items =
    object (member (codes "items")
    (list (items_of (text (codes "z") ∷ text (codes "a") ∷ text (codes "b") ∷ []))) no_members)

absent_slot_is_left : local
    (change.AddItem (codes "items" ∷ codes "0" ∷ []) (text (codes "z")) ∷ []) three_items
    (map value_slot ((codes "items" ∷ []) ∷ (codes "x" ∷ []) ∷ []))
    ≡ Add (codes "0" ∷ codes "0" ∷ codes "0" ∷ []) (text (codes "z")) ∷ []
unfolding three_items index_of index_text
absent_slot_is_left = refl

no_change_is_nothing : local [] three_items
    (map value_slot ((codes "items" ∷ []) ∷ (codes "x" ∷ []) ∷ [])) ≡ []
no_change_is_nothing = refl

-- sizes

sized_items : View
sized_items = size_slot (codes "items" ∷ []) ∷ value_slot (codes "items" ∷ codes "0" ∷ []) ∷ []

one_more_is_counted : relayed_in two_items
    (Add (codes "items" ∷ codes "-" ∷ []) (text (codes "z"))) sized_items
    ≡ Ok (Replace (codes "0" ∷ []) (list (items_of (num 3 ∷ []))) ∷ [])
unfolding two_items sized_items index_of index_text
one_more_is_counted = refl

an_exchange_is_not : relayed_in two_items
    (Replace (codes "items" ∷ codes "1" ∷ []) (text (codes "c"))) sized_items ≡ Ok []
unfolding two_items sized_items index_of index_text
an_exchange_is_not = refl

a_scalar_has_no_size : relayed_in two_items (Replace (codes "items" ∷ []) null) sized_items
    ≡ Ok (Replace (codes "0" ∷ []) (list no_items) ∷ Replace (codes "1" ∷ []) (list no_items) ∷ [])
unfolding two_items sized_items index_of index_text
a_scalar_has_no_size = refl

nested_1 : Document
nested_1 = object (members ((codes "a", object (members ((codes "x", num 1) ∷ []))) ∷ []))

below_its_parts_is_nothing : relayed_in nested_1 (Add (codes "a" ∷ codes "y" ∷ []) (num 2))
    (size_slot [] ∷ []) ≡ Ok []
unfolding nested_1 index_of index_text
below_its_parts_is_nothing = refl

a_move_across_the_edge_is_counted : relayed_in nested_1
    (Move (codes "a" ∷ codes "x" ∷ []) (codes "x" ∷ [])) (size_slot [] ∷ [])
    ≡ Ok (Replace (codes "0" ∷ []) (list (items_of (num 2 ∷ []))) ∷ [])
unfolding nested_1 index_of index_text
a_move_across_the_edge_is_counted = refl

-- which of three sessions a change touches

three_views : List View
three_views =
    map (map value_slot)
    (((codes "a" ∷ []) ∷ []) ∷ ((codes "b" ∷ codes "0" ∷ []) ∷ []) ∷ ([] ∷ (codes "a" ∷ []) ∷ [])
    ∷ [])

abbrev told : List Change → List Bool
told changes = map (λ view. list_any (is_touched changes) view) three_views

an_insertion_tells_its_index_and_the_whole : told
    (change.AddItem (codes "b" ∷ codes "0" ∷ []) null ∷ []) ≡ false ∷ true ∷ true ∷ []
unfolding three_views index_of
an_insertion_tells_its_index_and_the_whole = refl

an_insertion_behind_tells_the_whole : told (change.AddItem (codes "b" ∷ codes "1" ∷ []) null ∷ [])
    ≡ false ∷ false ∷ true ∷ []
unfolding three_views index_of
an_insertion_behind_tells_the_whole = refl

an_exchange_tells_its_path : told (change.Set (codes "a" ∷ []) null ∷ []) ≡ true ∷ false ∷ true ∷ []
unfolding three_views index_of
an_exchange_tells_its_path = refl

a_copy_tells_where_it_comes : told
    (change.Copy (codes "a" ∷ []) (record { path = codes "c" ∷ []; item = false }) null ∷ [])
    ≡ false ∷ false ∷ true ∷ []
unfolding three_views index_of
a_copy_tells_where_it_comes = refl

no_change_tells_none : told [] ≡ false ∷ false ∷ false ∷ []
unfolding three_views
no_change_tells_none = refl

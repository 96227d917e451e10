-- The parts of a document, one level down: the elements of a list and the members of an object.
use Rattle.std.specs.Prelude.{◌≡◌, ℕ, zero, suc, List, Option, Some, None, option_map, is_some}
use Rattle.std.specs.Prelude.{bytes_eq, if◌then◌else◌, ⊤}
use Rattle.std.specs.declared.cmp.Ordering.TheVariants.{Less}
use Rattle.std.specs.Ordering.{nat_cmp, match_ordering}
use Rattle.std.specs.Cmp.Lexicographic.{slice_cmp}
use Rattle.relay_tree.specs.Document.{Document, text, list, object, Items, no_items, item, Members}
use Rattle.relay_tree.specs.Document.{no_members, member}

-- Elements.

abbrev pub items_length : Items → ℕ
items_length no_items = 0
items_length (item d ds) = suc (items_length ds)

abbrev pub items_append : Items → Items → Items
items_append no_items es = es
items_append (item d ds) es = item d (items_append ds es)

-- the element at an index, counted from 0; `None` if the index is past the end
abbrev pub item_at : Items → ℕ → Option Document
item_at no_items i = None
item_at (item d ds) zero = Some d
item_at (item d ds) (suc i) = item_at ds i

-- the elements with e in place of the one at the index; unchanged if there is none
abbrev pub put_item : Items → ℕ → Document → Items
put_item no_items i e = no_items
put_item (item d ds) zero e = item e ds
put_item (item d ds) (suc i) e = item d (put_item ds i e)

-- the first i elements, then e, then the rest; `None` if there are fewer than i elements
abbrev pub insert_item : Items → ℕ → Document → Option Items
insert_item ds zero e = Some (item e ds)
insert_item no_items (suc i) e = None
insert_item (item d ds) (suc i) e = option_map (item d) (insert_item ds i e)

-- the elements without the one at the index; `None` if there is none
abbrev pub drop_item : Items → ℕ → Option Items
drop_item no_items i = None
drop_item (item d ds) zero = Some ds
drop_item (item d ds) (suc i) = option_map (item d) (drop_item ds i)

-- Members.

-- the value of the member with this name; `None` if there is none
abbrev pub member_at : Members → List ℕ → Option Document
member_at no_members name = None
member_at (member n d ms) name = if bytes_eq n name then Some d else member_at ms name

-- the members with e as the value of the named one; unchanged if there is none
abbrev pub set_member : Members → List ℕ → Document → Members
set_member no_members name e = no_members
set_member (member n d ms) name e =
    if bytes_eq n name then member n e ms else member n d (set_member ms name e)

-- the members with e added under a name that none of them has, in byte order
abbrev pub add_member : Members → List ℕ → Document → Members
add_member no_members name e = member name e no_members
add_member (member n d ms) name e =
    match_ordering (slice_cmp nat_cmp name n) (member name e (member n d ms)) (member name e ms)
    (member n d (add_member ms name e))

-- the members with e under the name, added or in place of an earlier value
abbrev pub put_member : Members → List ℕ → Document → Members
put_member ms name e =
    if is_some (member_at ms name) then set_member ms name e else add_member ms name e

-- the members without the named one; `None` if there is none
abbrev pub drop_member : Members → List ℕ → Option Members
drop_member no_members name = None
drop_member (member n d ms) name =
    if bytes_eq n name then Some ms else option_map (member n d) (drop_member ms name)

abbrev pub members_length : Members → ℕ
members_length no_members = 0
members_length (member n d ms) = suc (members_length ms)

-- each name is above this one
abbrev pub AreAbove : List ℕ → Members → Type 0
AreAbove name no_members = ⊤
AreAbove name (member n d ms) = (slice_cmp nat_cmp name n ≡ Less) × AreAbove name ms

-- the names ascend
abbrev pub IsOrdered : Members → Type 0
IsOrdered no_members = ⊤
IsOrdered (member n d ms) = AreAbove n ms × IsOrdered ms

-- Elements and members of a document.

-- the number of elements of a list; `None` if the document is not a list
abbrev pub list_len : Document → Option ℕ
list_len (list ds) = Some (items_length ds)
list_len _ = None

-- the number of members of an object; `None` if the document is not an object
abbrev pub members_len : Document → Option ℕ
members_len (object ms) = Some (members_length ms)
members_len _ = None

-- the element of a list at an index; `None` if there is none or the document is not a list
abbrev pub list_item : Document → ℕ → Option Document
list_item (list ds) i = item_at ds i
list_item _ i = None

-- the value of an object's member with a name; `None` if there is none or the document is not an
-- object
abbrev pub object_member : Document → List ℕ → Option Document
object_member (object ms) name = member_at ms name
object_member _ name = None

-- the list with e in place of the element at the index; unchanged if there is none
abbrev pub with_item : Document → ℕ → Document → Document
with_item (list ds) i e = list (put_item ds i e)
with_item d i e = d

-- the object with e as the value of the named member; unchanged if there is none
abbrev pub with_member : Document → List ℕ → Document → Document
with_member (object ms) name e = object (set_member ms name e)
with_member d name e = d

abbrev pub as_text : Option Document → Option (List ℕ)
as_text (Some (text s)) = Some s
as_text _ = None

-- the named member as a text; `None` if there is no such member or it is not a text
abbrev pub text_in : Document → List ℕ → Option (List ℕ)
text_in d name = as_text (object_member d name)

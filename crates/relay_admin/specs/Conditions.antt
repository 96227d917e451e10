-- The entity tags of revisions, and the conditions on them (RFC 9110, sections 8.8.3 and 13.1).
use Rattle.std.specs.Prelude.{ℕ, Bool, ◌||◌, if◌then◌else◌, List, [], ◌∷◌, ◌++◌, codes, decimal}
use Rattle.std.specs.Prelude.{bytes_eq}
use Rattle.std.specs.Str.{str_eq_ignore_ascii_case}
use Rattle.relay_http_head.specs.Head.{Fields, lists}
use Rattle.relay_admin.specs.declared.room.revision_tag.RevisionTag.{RevisionTag}

-- the strong tag of a revision of an epoch, "EPOCH-REV"
abbrev pub tag_text : RevisionTag → List ℕ
tag_text tag =
    codes "\"" ++ (decimal tag.epoch ++ (codes "-" ++ (decimal tag.rev ++ codes "\"")))

-- the values of the fields with a name, each with a comma behind it, so that several are one list
-- (RFC 9110, section 5.3); nothing exactly if there is no such field
abbrev pub listed : List ℕ → Fields → List ℕ
listed name [] = []
listed name (field ∷ fields) =
    if str_eq_ignore_ascii_case field.0 name then field.1 ++ 44 ∷ listed name fields
    else listed name fields

-- If-Match is `*`: it holds only where something is, at whatever revision
abbrev pub is_star : List ℕ → Bool
is_star list = bytes_eq list (codes "*,")

-- If-Match asks for no revision: it is not there, or it is `*`
abbrev pub is_any : List ℕ → Bool
is_any list = bytes_eq list [] || is_star list

-- If-Match holds at the revision with this tag: it asks for none, or for this one and no other
abbrev pub matches : RevisionTag → List ℕ → Bool
matches tag list = is_any list || bytes_eq list (tag_text tag ++ codes ",")

-- If-None-Match names the revision with this tag: by `*`, or by its tag, strong or weak
abbrev pub is_named : RevisionTag → List ℕ → Bool
is_named tag list =
    lists (codes "*") list || lists (tag_text tag) list || lists (codes "W/" ++ tag_text tag) list

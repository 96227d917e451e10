-- The value at a path, and the document with another value there (RFC 6901, section 4).
use Rattle.std.specs.Prelude.{ℕ, List, [], ◌∷◌, map, String, string_bytes, Bool, true, false, ◌&&◌}
use Rattle.std.specs.Prelude.{bytes_eq, Option, Some, None, option_and_then}
use Rattle.std.specs.Option.{option_map_or}
use Rattle.relay_tree.specs.Document.{Document, list, object, Items}
use Rattle.relay_tree.specs.Part.{item_at, put_item, member_at, set_member}
use Rattle.relay_pointer.specs.Index.{Token, index_of}
pub use Rattle.relay_pointer.specs.Index.{Token}

abbrev pub Path : Type 0
Path = List Token

-- the path whose tokens are the texts of a list
abbrev pub path_of : {A : Type 0} → List (String A) → Path
path_of texts = map string_bytes texts

-- the part that a token names, if there is one
abbrev pub child : Document → Token → Option Document
child (list ds) t = option_and_then (item_at ds) (index_of t)
child (object ms) t = member_at ms t
child _ t = None

-- the value at a path, if there is one
abbrev pub at : Document → Path → Option Document
at d [] = Some d
at d (t ∷ path) = option_and_then (λ c. at c path) (child d t)

abbrev pub put_element : Items → Option ℕ → Document → Items
put_element ds None c = ds
put_element ds (Some i) c = put_item ds i c

-- the document with c in place of the part that a token names; unchanged if there is none
abbrev pub with_child : Document → Token → Document → Document
with_child (list ds) t c = list (put_element ds (index_of t) c)
with_child (object ms) t c = object (set_member ms t c)
with_child d t c = d

-- the document with v in place of the value at the path; unchanged if there is none
abbrev pub put : Document → Path → Document → Document
put d [] v = v
put d (t ∷ path) v = option_map_or (λ c. with_child d t (put c path v)) (child d t) d

-- the second path begins with the first, or is the first
abbrev pub is_prefix : Path → Path → Bool
is_prefix [] q = true
is_prefix (t ∷ p) [] = false
is_prefix (t ∷ p) (u ∷ q) = bytes_eq t u && is_prefix p q

-- a prefix that is shorter than the path
abbrev pub is_proper_prefix : Path → Path → Bool
is_proper_prefix p [] = false
is_proper_prefix [] (u ∷ q) = true
is_proper_prefix (t ∷ p) (u ∷ q) = bytes_eq t u && is_proper_prefix p q

abbrev pub same_path : Path → Path → Bool
same_path [] [] = true
same_path [] (u ∷ q) = false
same_path (t ∷ p) [] = false
same_path (t ∷ p) (u ∷ q) = bytes_eq t u && same_path p q

-- The value read so far of a text, beside the one that `serde_json` reads there. A value in which a
-- number is not whole is read on, and is `None`.
use Rattle.std.specs.Prelude.{◌≡◌, ℤ, ℕ, List, [], ◌∷◌, ◌++◌, map, Option, Some, option_map}
use Rattle.std.specs.Prelude.{option_and_then, String, string_bytes, ⊤}
use Rattle.std.specs.declared.alloc.Global.{Global}
use Rattle.serde_json.specs.Find.{as_i64}
use Rattle.serde_json.specs.Read.{number_of}
use Rattle.serde_json.specs.Data.{Members, no_members, member}
use Rattle.relay_tree.specs.Document.{Document}
use Rattle.relay_tree.specs.Text.{tree_of}
use Rattle.relay_tree.specs.declared.open_object.OpenObject.{OpenObject}
use Rattle.relay_tree.specs.declared.open_object.OpenObject.TheVariants.{Few, Many}

-- the whole number in 64 bits that a number's text spells, if it spells one; `None` if it is too
-- large for a float
abbrev pub whole_of : List ℕ → Option (Option ℤ)
whole_of s = option_map as_i64 (number_of s)

-- the items with one more at the end
abbrev pub extended : Option (List Document) → Option Document → Option (List Document)
extended ds d = option_and_then (λ es. option_map (λ e. es ++ e ∷ []) d) ds

-- the members with the documents that their values are
abbrev pub AreRead : Members → List (String Global × Option Document) → Type 0
AreRead no_members [] = ⊤
AreRead (member k d ms) (e ∷ es) = (k ≡ string_bytes e.0) × (tree_of d ≡ e.1) × AreRead ms es
AreRead no_members (e ∷ es) = ⊥
AreRead (member k d ms) [] = ⊥

-- a member that could be read
abbrev pub as_read : String Global × Document → String Global × Option Document
as_read e = (e.0, Some e.1)

-- the members of an object so far, with the documents that their values are
abbrev pub members_read : OpenObject → List (String Global × Option Document)
members_read (Few members) = map as_read members.entries
members_read (Many found) = found.entries

-- The place at which an operation inserts or removes.
use Rattle.std.specs.Prelude.{[], ◌∷◌, ◌++◌, Bool, true, false, ◌&&◌, Option, Some, bytes_eq}
use Rattle.std.specs.Prelude.{if◌then◌else◌}
use Rattle.relay_tree.specs.Document.{Document, list, Items}
use Rattle.relay_tree.specs.Part.{items_length}
use Rattle.relay_pointer.specs.Index.{Token, index_text}
use Rattle.relay_pointer.specs.Path.{Path, at, same_path}
use Rattle.relay_patch.specs.Walk.{dash}
pub use Rattle.relay_patch.specs.declared.change.Place.{Place}

-- the tokens of t followed by path, without the last one
abbrev pub parent : Token → Path → Path
parent t [] = []
parent t (u ∷ path) = t ∷ parent u path

-- the last token of t followed by path
abbrev pub last : Token → Path → Token
last t [] = t
last t (u ∷ path) = last u path

-- a token of a list, with `-` replaced by the index that it names
abbrev pub canonical : Items → Token → Token
canonical ds t = if bytes_eq t dash then index_text (items_length ds) else t

-- the place that a token names in a container; it is an item if the container is a list
abbrev pub place_within : Option Document → Path → Token → Place
place_within (Some (list ds)) before t =
    record { path = before ++ canonical ds t ∷ []; item = true }
place_within _ before t = record { path = before ++ t ∷ []; item = false }

-- the place that a path names in a document
abbrev pub place_of : Document → Path → Place
place_of d [] = record { path = []; item = false }
place_of d (t ∷ path) = place_within (at d (parent t path)) (parent t path) (last t path)

-- a path without its last token
abbrev pub front : Path → Path
front [] = []
front (t ∷ path) = parent t path

-- the last token of a path
abbrev pub last_of : Path → Token
last_of [] = []
last_of (t ∷ path) = last t path

-- both paths lead to parts of one container
abbrev pub beside : Path → Path → Bool
beside (t ∷ path) (u ∷ other) = same_path (parent t path) (parent u other)
beside _ _ = false

-- both places are items of one list
abbrev pub in_one_list : Place → Place → Bool
in_one_list from to = from.item && to.item && beside from.path to.path

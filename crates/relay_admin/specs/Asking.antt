-- The texts that are said to a hub, as the tokens of their JSON, and the text of the snapshot that
-- it shows.
use Rattle.std.specs.Prelude.{ℕ, List, [], ◌∷◌, ◌++◌, Option, Some, None, IsSome, codes, decimal}
use Rattle.std.specs.Prelude.{IsUtf8}
use Rattle.json.specs.Json.{document}
use Rattle.json.specs.Token.{Token, begin_array, end_array, begin_object, end_object, key, string}
use Rattle.json.specs.Token.{number}

-- the bytes are one JSON text (RFC 8259)
abbrev pub IsJson : List ℕ → Type 0
IsJson bytes = IsUtf8 bytes × IsSome (document bytes)

-- a request of a name with the id 1, before its other members
abbrev pub begun : List ℕ → List Token
begun name =
    begin_object ∷ key (codes "do") ∷ string name ∷ key (codes "id") ∷ number (decimal 1) ∷ []

-- the member that names the revision at which an edit is to be made, if one is named
abbrev pub based : Option ℕ → List Token
based (Some rev) = key (codes "base") ∷ number (decimal rev) ∷ []
based None = []

-- the request that watches the part at a pointer
abbrev pub watch_tokens : List ℕ → List Token
watch_tokens at =
    begun (codes "watch")
    ++ key (codes "view") ∷ begin_array ∷ string at ∷ end_array ∷ end_object ∷ []

-- the request that edits by a patch of these tokens
abbrev pub edit_tokens : Option ℕ → List Token → List Token
edit_tokens base patch =
    begun (codes "edit") ++ (based base ++ (key (codes "patch") ∷ (patch ++ end_object ∷ [])))

-- the snapshot of a view of one slot that shows a value, or nothing
abbrev pub snapshot_text : ℕ → List ℕ → List ℕ
snapshot_text rev value =
    codes "{\"kind\":\"snapshot\",\"rev\":" ++ (decimal rev
    ++ (codes ",\"view\":[[" ++ (value ++ codes "]]}")))

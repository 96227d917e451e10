-- The lists of rooms, as the tokens of their JSON.
use Rattle.std.specs.Prelude.{ℕ, List, [], ◌∷◌, ◌++◌, map, Option, Some, None, codes, decimal}
use Rattle.json.specs.Token.{Token, begin_array, end_array, begin_object, end_object, key, string}
use Rattle.json.specs.Token.{number}

-- a list without rooms, before its end
abbrev pub begun : List Token
begun = begin_array ∷ []

-- tokens, and behind them a member that is a number
abbrev pub with_number : List ℕ → ℕ → List Token → List Token
with_number name value tokens = tokens ++ key name ∷ number (decimal value) ∷ []

-- tokens, and behind them a room's revision, how many sessions are open in it, and the weight of
-- its document
abbrev pub with_numbers : ℕ → ℕ → ℕ → List Token → List Token
with_numbers revision sessions weight tokens =
    with_number (codes "weight") weight
    (with_number (codes "sessions") sessions (with_number (codes "revision") revision tokens))

-- tokens, and behind them for how many seconds nobody has been in a room, if nobody is
abbrev pub with_empty : Option ℕ → List Token → List Token
with_empty (Some seconds) tokens = with_number (codes "empty") seconds tokens
with_empty None tokens = tokens

-- tokens, and behind them a room with its name and these numbers
abbrev pub with_room : List ℕ → ℕ → ℕ → ℕ → Option ℕ → List Token → List Token
with_room name revision sessions weight empty tokens =
    with_empty empty
    (with_numbers revision sessions weight (tokens ++ begin_object ∷ key (codes "name")
    ∷ string name ∷ []))
    ++ end_object ∷ []

-- the whole list of rooms that are only named
abbrev pub names_listed : List (List ℕ) → List Token
names_listed names = (begun ++ map string names) ++ end_array ∷ []

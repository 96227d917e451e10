-- Parts of a text.
use Rattle.std.specs.Prelude.{ℕ, ◌==◌, if◌then◌else◌, List, [], ◌∷◌, length, drop, nat_eq, Option}
use Rattle.std.specs.Prelude.{Some, None}
use Rattle.std.specs.List.{starts_with}

-- what stands behind a prefix, if the text begins with it
abbrev pub behind : List ℕ → List ℕ → Option (List ℕ)
behind prefix text =
    if starts_with nat_eq text prefix then Some (drop (length prefix) text) else None

-- what stands before the first mark
abbrev pub until : ℕ → List ℕ → List ℕ
until mark [] = []
until mark (b ∷ rest) = if b == mark then [] else b ∷ until mark rest

-- what stands behind the first mark, if there is one
abbrev pub after : ℕ → List ℕ → Option (List ℕ)
after mark [] = None
after mark (b ∷ rest) = if b == mark then Some rest else after mark rest

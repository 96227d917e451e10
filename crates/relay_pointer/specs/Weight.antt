-- The weight of a path: each of its tokens weighs as much as a text.
use Rattle.std.specs.Prelude.{ℕ, ◌+◌, [], ◌∷◌, length}
use Rattle.relay_pointer.specs.Path.{Path}

abbrev pub path_weight : Path → ℕ
path_weight [] = 0
path_weight (t ∷ path) = 8 + length t + path_weight path

-- The numbers of sessions, in ascending order.
use Rattle.std.specs.Prelude.{ℕ, ◌==◌, ◌<◌, nat_lt, Bool, true, false, List, [], ◌∷◌}
use Rattle.std.specs.Prelude.{if◌then◌else◌, ⊤}

abbrev pub is_empty : List ℕ → Bool
is_empty [] = true
is_empty (x ∷ xs) = false

-- the numbers with s at its place
abbrev pub inserted : ℕ → List ℕ → List ℕ
inserted s [] = s ∷ []
inserted s (x ∷ xs) =
    if nat_lt s x then s ∷ x ∷ xs else if s == x then x ∷ xs else x ∷ inserted s xs

-- the numbers without s
abbrev pub removed : ℕ → List ℕ → List ℕ
removed s [] = []
removed s (x ∷ xs) = if s == x then removed s xs else x ∷ removed s xs

-- each number is above x
abbrev pub AreAbove : ℕ → List ℕ → Type 0
AreAbove x [] = ⊤
AreAbove x (y ∷ ys) = (x < y) × AreAbove x ys

-- each number is below those behind it
abbrev pub IsRising : List ℕ → Type 0
IsRising [] = ⊤
IsRising (x ∷ xs) = AreAbove x xs × IsRising xs

-- Checks in their order, each with the refusal if it fails.
use Rattle.std.specs.Prelude.{Bool, if◌then◌else◌, List, [], ◌∷◌, Option, Some, None}

-- the refusal of the first check that fails
abbrev pub first_failed : {R : Type 0} → List (Bool × R) → Option R
first_failed [] = None
first_failed (check ∷ later) = if check.0 then first_failed later else Some check.1

-- Lemmas on lists.
use Rattle.std.proofs.Common.{◌≡◌, Bool, List, [], ◌∷◌, map, refl, ap, ◌||◌}
use Rattle.std.specs.List.{list_any}

-- a test applied to the result of a function
pub list_any_map : {A B : Type 0} (test : B → Bool) (f : A → B) (xs : List A)
    → list_any test (map f xs) ≡ list_any (λ x. test (f x)) xs
list_any_map test f [] = refl
list_any_map test f (x ∷ xs) = ap (λ later. test (f x) || later) (list_any_map test f xs)

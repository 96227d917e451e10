-- A list that is read element by element. If an element is refused, the first fault is the result.
use Rattle.std.specs.Prelude.{ℕ, suc, List, [], ◌∷◌, Result, Ok, Err}
use Rattle.relay_tree.specs.Document.{Document, Items, no_items, item}

abbrev pub onto : {A E : Type 0} → Result A E → Result (List A) E → Result (List A) E
onto (Ok x) (Ok xs) = Ok (x ∷ xs)
onto (Ok x) (Err fault) = Err fault
onto (Err fault) xs = Err fault

-- each element read with its place; the first element is at place n
abbrev pub each_from : {A E : Type 0} → (ℕ → Document → Result A E) → ℕ → Items → Result (List A) E
each_from reads n no_items = Ok []
each_from reads n (item d ds) = onto (reads n d) (each_from reads (suc n) ds)

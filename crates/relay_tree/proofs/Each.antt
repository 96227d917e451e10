-- Elements that are read one by one: those already read, followed by those that are left.
use Rattle.std.proofs.Common.{◌≡◌, ℕ, suc, ◌+◌, ◌<◌, ◌≤◌, List, [], ◌∷◌, ◌++◌, length, Result, Ok}
use Rattle.std.proofs.Common.{Err, refl, ap, add-one, append_assoc, Option, Some, None, Bool, true}
use Rattle.std.proofs.Common.{false, nat_lt, if◌then◌else◌, arith, IfOk, IfErr}
use Rattle.relay_tree.specs.Document.{Document, Items, no_items, item}
use Rattle.relay_tree.specs.Each.{onto, each_from}
use Rattle.relay_tree.proofs.Outcomes.{if_err}
use Rattle.std.proofs.lemmas.Bool.Decides.{nat_tests}
use Rattle.relay_tree.specs.Part.{items_length}

abbrev pub behind : {A E : Type 0} → List A → Result (List A) E → Result (List A) E
behind done (Ok xs) = Ok (done ++ xs)
behind done (Err fault) = Err fault

pub behind_none : {A E : Type 0} (rest : Result (List A) E) → behind [] rest ≡ rest
behind_none (Ok xs) = refl
behind_none (Err fault) = refl

behind_onto : {A E : Type 0} (done : List A) (x : A) (rest : Result (List A) E)
    → behind (done ++ x ∷ []) rest ≡ behind done (onto (Ok x) rest)
behind_onto done x (Ok xs) = ap Ok (append_assoc done (x ∷ []) xs)
behind_onto done x (Err fault) = refl

-- reading one more element
pub read_more : {A E : Type 0} (reads : ℕ → Document → Result A E) (n : ℕ) (d : Document)
    (ds : Items) (done : List A) (x : A) → reads n d ≡ Ok x
    → behind (done ++ x ∷ []) (each_from reads (n + 1) ds)
    ≡ behind done (each_from reads n (item d ds))
read_more reads n d ds done x found =
    rw (add-one, found) (behind_onto done x (each_from reads (suc n) ds))

-- The number of elements that were read, and the element that a fault names.

-- the number, if there is one, is below the bound
abbrev pub IsBelow : ℕ → Option ℕ → Type 0
IsBelow most (Some n) = n < most
IsBelow most None = Unit {0}

module _ {A E : Type 0} where
  onto-length : (r : Result A E) (rest : Result (List A) E) (m : ℕ)
      → IfOk rest (λ xs. length xs ≡ m) → IfOk (onto r rest) (λ xs. length xs ≡ suc m)
  onto-length (Ok x) (Ok xs) m h = rw h refl
  onto-length _ _ m h = tt

  each-length : (reads : ℕ → Document → Result A E) (n : ℕ) (ds : Items)
      → IfOk (each_from reads n ds) (λ xs. length xs ≡ items_length ds)
  each-length reads n no_items = refl
  each-length reads n (item d ds) =
      onto-length (reads n d) (each_from reads (suc n) ds) (items_length ds)
      (each-length reads (suc n) ds)

  -- a list that is read has at most `most` elements
  pub few-length : (reads : ℕ → Document → Result A E) (most : ℕ) (many : E) (ds : Items)
      → IfOk (if nat_lt most (items_length ds) then Err many else each_from reads 0 ds)
      (λ xs. length xs ≤ most)
  few-length reads most many ds =
      go (nat_lt most (items_length ds)) (each_from reads 0 ds) refl (each-length reads 0 ds)
    where
      go : (b : Bool) (read : Result (List A) E) → b ≡ nat_lt most (items_length ds)
          → IfOk read (λ xs. length xs ≡ items_length ds)
          → IfOk (if b then Err many else read) (λ xs. length xs ≤ most)
      go true read e h = tt
      go false (Err fault) e h = tt
      go false (Ok xs) e h = let few : items_length ds ≤ most = grind (arith, nat_tests, e) in
          omega (arith, few, h)

module _ {A E : Type 0} (reads : ℕ → Document → Result A E) (named : E → Option ℕ)
    (names : (n : ℕ) (d : Document) → IfErr (reads n d) (λ fault. named fault ≡ Some n)) where
  abbrev NamesBelow : ℕ → E → Type 0
  NamesBelow most fault = (k : ℕ) × (k < most) × (named fault ≡ Some k)

  onto-refused : (Q : E → Type 0) (r : Result A E) (rest : Result (List A) E) → IfErr r Q
      → IfErr rest Q → IfErr (onto r rest) Q
  onto-refused Q (Ok x) (Ok xs) h k = tt
  onto-refused Q (Ok x) (Err e) h k = k
  onto-refused Q (Err e) rest h k = h

  each-place : (n : ℕ) (ds : Items)
      → IfErr (each_from reads n ds) (NamesBelow (n + items_length ds))
  each-place n no_items = tt
  each-place n (item d ds) =
      onto-refused (NamesBelow (n + suc (items_length ds))) (reads n d) (each_from reads (suc n) ds)
      (if_err (reads n d) (names n d) (λ fault is. (n, omega arith, is)))
      (if_err (each_from reads (suc n) ds) (each-place (suc n) ds)
      (λ fault k. (k.0, (let below = k.1 in omega (arith, below)), k.2)))

  -- a fault names an element below `most`, if it names one
  pub few-place : (most : ℕ) (many : E) → IsBelow most (named many) → (ds : Items)
      → IfErr (if nat_lt most (items_length ds) then Err many else each_from reads 0 ds)
      (λ fault. IsBelow most (named fault))
  few-place most many free ds =
      go (nat_lt most (items_length ds)) (each_from reads 0 ds) refl (each-place 0 ds)
    where
      go : (b : Bool) (read : Result (List A) E) → b ≡ nat_lt most (items_length ds)
          → IfErr read (NamesBelow (0 + items_length ds))
          → IfErr (if b then Err many else read) (λ fault. IsBelow most (named fault))
      go true read e h = free
      go false (Ok xs) e h = tt
      go false (Err fault) e h =
          let few : items_length ds ≤ most = grind (arith, nat_tests, e) in
          rw h.2 (omega (arith, few, h.1))

-- A list filtered twice.
use Rattle.std.proofs.Common.{◌≡◌, ◌∙◌, Bool, true, false, List, [], ◌∷◌, map, filter, ap, sym}
use Rattle.std.proofs.Common.{refl, if◌then◌else◌}

module _ {X : Type 0} (p : X → Bool) where
  pub filter_twice : (xs : List X) → filter p (filter p xs) ≡ filter p xs
  filter_twice [] = refl
  filter_twice (x ∷ xs) = go (p x) refl (filter_twice xs)
    where
      go : (b : Bool) → p x ≡ b → filter p (filter p xs) ≡ filter p xs
          → filter p (if b then x ∷ filter p xs else filter p xs)
          ≡ (if b then x ∷ filter p xs else filter p xs)
      go true is rest =
          ap (λ b. if b then x ∷ filter p (filter p xs) else filter p (filter p xs)) is
          ∙ ap (λ ys. x ∷ ys) rest
      go false is rest = rest

  -- an element that both lists have, or neither
  both : (b : Bool) (x : X) (us vs : List X) → filter p us ≡ filter p vs
      → filter p (if b then x ∷ us else us) ≡ filter p (if b then x ∷ vs else vs)
  both true x us vs same = ap (λ ys. if p x then x ∷ ys else ys) same
  both false x us vs same = same

  -- an element that only the second list may have, and that the test refuses
  only_second : (b : Bool) (x : X) (us vs : List X) → p x ≡ false → filter p us ≡ filter p vs
      → filter p us ≡ filter p (if b then x ∷ vs else vs)
  only_second true x us vs refused same =
      same ∙ sym (ap (λ b. if b then x ∷ filter p vs else filter p vs) refused)
  only_second false x us vs refused same = same

  -- what another test keeps is the same if this one came first too
  pub filter_between : (q : X → Bool) (xs : List X)
      → filter p (filter q (filter p xs)) ≡ filter p (filter q xs)
  filter_between q [] = refl
  filter_between q (x ∷ xs) = go (p x) refl (filter_between q xs)
    where
      go : (b : Bool) → p x ≡ b → filter p (filter q (filter p xs)) ≡ filter p (filter q xs)
          → filter p (filter q (if b then x ∷ filter p xs else filter p xs))
          ≡ filter p (if q x then x ∷ filter q xs else filter q xs)
      go true is same = both (q x) x (filter q (filter p xs)) (filter q xs) same
      go false is same = only_second (q x) x (filter q (filter p xs)) (filter q xs) is same

  -- a map that the test does not see
  pub filter-map : (f : X → X) → ((x : X) → p (f x) ≡ p x) → (xs : List X)
      → filter p (map f xs) ≡ map f (filter p xs)
  filter-map f same [] = refl
  filter-map f same (x ∷ xs) =
      ap (λ b. if b then f x ∷ filter p (map f xs) else filter p (map f xs)) (same x)
      ∙ ap (λ ys. if p x then f x ∷ ys else ys) (filter-map f same xs)
      ∙ go (p x)
    where
      go : (b : Bool) → (if b then f x ∷ map f (filter p xs) else map f (filter p xs))
          ≡ map f (if b then x ∷ filter p xs else filter p xs)
      go true = refl
      go false = refl

  -- a map that leaves what the test passes
  pub map-filter : (f : X → X) → ((x : X) → p x ≡ true → f x ≡ x) → (xs : List X)
      → map f (filter p xs) ≡ filter p xs
  map-filter f same [] = refl
  map-filter f same (x ∷ xs) = go (p x) refl (map-filter f same xs)
    where
      go : (b : Bool) → p x ≡ b → map f (filter p xs) ≡ filter p xs
          → map f (if b then x ∷ filter p xs else filter p xs)
          ≡ (if b then x ∷ filter p xs else filter p xs)
      go true is rest = ap (λ y. y ∷ map f (filter p xs)) (same x is) ∙ ap (λ ys. x ∷ ys) rest
      go false is rest = rest

-- The bytes of a pointer's text by their meaning, and the parts of the text between slashes.
use Rattle.std.proofs.Common.{◌≡◌, ℕ, List, [], ◌∷◌, Bool, true, false, ◌==◌, refl, subst, arith}
use Rattle.std.specs.List.{slice_split}
use Rattle.std.proofs.lemmas.Bool.Decides.{nat_tests}

-- a byte of a token is `~`, `/` or any other byte
pub data Kind : ℕ → Type 0 where
  tilde : Kind 126
  slash : Kind 47
  letter : (b : ℕ) → (b == 126) ≡ false → (b == 47) ≡ false → Kind b

pub kind : (b : ℕ) → Kind b
kind b = go (b == 126) refl (b == 47) refl
  where
    go : (x : Bool) → (b == 126) ≡ x → (y : Bool) → (b == 47) ≡ y → Kind b
    go true e y f = let is : 126 ≡ b = grind (arith, nat_tests) in subst Kind is tilde
    go false e true f = let is : 47 ≡ b = grind (arith, nat_tests) in subst Kind is slash
    go false e false f = letter b e f

-- the parts of a text between slashes, of which there is at least one
pub record Parts (bs : List ℕ) : Type 0 where
  pub first : List ℕ
  pub more : List (List ℕ)
  pub are : slice_split (λ c. c == 47) bs ≡ first ∷ more

pub parts : (bs : List ℕ) → Parts bs
parts [] = record { first = []; more = []; are = refl }
parts (b ∷ bs) = go (b == 47) refl (parts bs)
  where
    go : (x : Bool) → (b == 47) ≡ x → Parts bs → Parts (b ∷ bs)
    go true e p = record { first = []; more = slice_split (λ c. c == 47) bs; are = rw e refl }
    go false e p = record { first = b ∷ p.first; more = p.more; are = rw (e, p.are) refl }

-- a byte after a `~` completes an escape or does not
pub data Behind : ℕ → Type 0 where
  zero_digit : Behind 48
  one_digit : Behind 49
  stroke : Behind 47
  other : (b : ℕ) → (b == 48) ≡ false → (b == 49) ≡ false → (b == 47) ≡ false → Behind b

pub behind_kind : (b : ℕ) → Behind b
behind_kind b = go (b == 48) refl (b == 49) refl (b == 47) refl
  where
    go : (x : Bool) → (b == 48) ≡ x → (y : Bool) → (b == 49) ≡ y → (z : Bool) → (b == 47) ≡ z
        → Behind b
    go true e y f z g = let is : 48 ≡ b = grind (arith, nat_tests) in subst Behind is zero_digit
    go false e true f z g = let is : 49 ≡ b = grind (arith, nat_tests) in subst Behind is one_digit
    go false e false f true g = let is : 47 ≡ b = grind (arith, nat_tests) in subst Behind is stroke
    go false e false f false g = other b e f g

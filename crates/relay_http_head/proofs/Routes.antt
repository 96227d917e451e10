-- Lookups in the rows of a router, from which both the rooms and the requests of an operator are
-- found.
use Rattle.std.proofs.Common.{◌≡◌, ℕ, zero, suc, ◌-◌, ◌<◌, Bool, true, false, cond, List, [], ◌∷◌}
use Rattle.std.proofs.Common.{length, Option, Some, None, refl, ap, ◌==◌}
use Rattle.matchit.specs.Rows.{RowsOf}
use Rattle.matchit.specs.Seek.{seek, param_step, or_else, has_slash}

-- each byte of a literal is below the tokens
abbrev pub IsPlain : List ℕ → Type 0
IsPlain [] = Unit {0}
IsPlain (x ∷ xs) = (x < 256) × IsPlain xs

module _ {K : Type 0} where
  -- the step of a parameter: no rows if a slash follows, else the rows behind the path's end
  abbrev pub after : Bool → ℕ → RowsOf K → ℕ × RowsOf K
  after slash n rows = cond {A = ℕ × RowsOf K} slash (0, []) (n, rows)

  pub or-none : (o : Option K) → or_else o None ≡ o
  or-none None = refl
  or-none (Some x) = refl

  pub nil-step : (slash : Bool) (n : ℕ) (path : List ℕ) → ((m : ℕ) → seek {K = K} m [] path ≡ None)
      → or_else (seek ((after slash n []).0 - 1) (after slash n []).1 path) None ≡ None
  nil-step true n path none = ap (λ o. or_else o None) (none (0 - 1))
  nil-step false n path none = ap (λ o. or_else o None) (none (n - 1))

  -- without rows nothing is found
  pub seek-nil : (n : ℕ) (path : List ℕ) → seek {K = K} n [] path ≡ None
  unfolding seek param_step
  seek-nil n [] = refl
  seek-nil (suc n) (b ∷ path) = seek-nil n path
  seek-nil zero (b ∷ path) =
      rw (seek-nil 0 path) (nil-step (cond (b == 47) true (has_slash path)) (suc (length path))
      path (λ m. seek-nil m path))

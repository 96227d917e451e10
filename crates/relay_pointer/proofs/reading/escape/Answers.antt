use Rattle.std.proofs.Common.{◌≡◌, ◌≢◌, None, ◌∷◌, [], List, ℕ, ◌==◌, Bool, true, false, refl}
use Rattle.std.proofs.Common.{arith}
use Rattle.std.proofs.lemmas.Bool.Decides.{nat_tests}
use Rattle.relay_pointer.specs.Spelling.{begins_escape, after_tilde}
use Rattle.relay_pointer.proofs.reading.escape.Goals as goal

no_escape : (bs : List ℕ) → ((rest : List ℕ) → bs ≢ 48 ∷ rest) → ((rest : List ℕ) → bs ≢ 49 ∷ rest)
    → (after_tilde bs ≡ None) × (false ≡ begins_escape bs)
no_escape [] zero one = (refl, refl)
no_escape (b ∷ bs) zero one = go (b == 48) refl (b == 49) refl
  where
    go : (x : Bool) → (b == 48) ≡ x → (y : Bool) → (b == 49) ≡ y
        → (after_tilde (b ∷ bs) ≡ None) × (false ≡ begins_escape (b ∷ bs))
    go true e y f = let is : b ≡ 48 = grind (arith, nat_tests) in absurd (zero bs (rw is refl))
    go false e true f = let is : b ≡ 49 = grind (arith, nat_tests) in absurd (one bs (rw is refl))
    go false e false f = (rw (e, f) refl, rw (e, f) refl)

pub returns-in_err-after-clause-missing : goal.returns-in_err-after-clause-missing
unfolding lib.Utf8.encode
returns-in_err-after-clause-missing c =
    let h = no_escape c.args.behind.now c.in_default.ensures.cases c.in_err-after.ensures.cases in
    λ _. h.0

pub returns-in_err-after-clause-is_there : goal.returns-in_err-after-clause-is_there
unfolding lib.Utf8.encode
returns-in_err-after-clause-is_there c =
    let h = no_escape c.args.behind.now c.in_default.ensures.cases c.in_err-after.ensures.cases in
    rw c.from_residual.ensures h.1

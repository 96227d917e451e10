-- Paying twice is paying the sum.
use Rattle.std.proofs.Common.{◌≡◌, ℕ, ◌+◌, ◌-◌, Bool, true, false, Some, None, refl, arith, nat_le}
use Rattle.std.proofs.Common.{if◌then◌else◌}
use Rattle.std.proofs.lemmas.Bool.Decides.{nat_tests}
use Rattle.relay_tree.specs.Budget.{Budget, Unbounded, Left, paid}

-- paying b from what is left after a is paying a + b
pub paid_on : (a b : ℕ) (x y : Budget) → paid a x ≡ Some y → paid b y ≡ paid (a + b) x
paid_on a b Unbounded y h = cc h
paid_on a b (Left n) y h = go (nat_le a n) refl h
  where
    both : (u : Bool) → nat_le a n ≡ true → nat_le b (n - a) ≡ u → nat_le (a + b) n ≡ u
    both true e k = grind (arith, nat_tests, e, k)
    both false e k = grind (arith, nat_tests, e, k)

    less : (n - a) - b ≡ n - (a + b)
    less = omega arith

    go : (u : Bool) → nat_le a n ≡ u → (if u then Some (Left (n - a)) else None) ≡ Some y
        → paid b y ≡ paid (a + b) (Left n)
    go true e k =
        let is : Left (n - a) ≡ y = cc in
        rw (← is, both (nat_le b (n - a)) e refl, less) refl
    go false e k = absurd cc

-- a budget that is too small for a part is too small for the whole
pub paid_out : (a b : ℕ) (x : Budget) → paid a x ≡ None → paid (a + b) x ≡ None
paid_out a b Unbounded h = absurd cc
paid_out a b (Left n) h = go (nat_le a n) refl h
  where
    go : (u : Bool) → nat_le a n ≡ u → (if u then Some (Left (n - a)) else None) ≡ None
        → paid (a + b) (Left n) ≡ None
    go true e k = absurd cc
    go false e k =
        let over : nat_le (a + b) n ≡ false = grind (arith, nat_tests, e) in
        rw over refl

-- nothing costs nothing
pub paid_nothing : (x : Budget) → paid 0 x ≡ Some x
paid_nothing Unbounded = refl
paid_nothing (Left n) =
    let covers : nat_le 0 n ≡ true = grind (arith, nat_tests) in
    let rest : n - 0 ≡ n = omega arith in
    rw (covers, rest) refl

-- The number of times that a key stands in a list that gains a key or loses its first.
use Rattle.std.proofs.Common.{◌≡◌, inl, inr, ℕ, List, [], ◌∷◌, ◌++◌, Bool, false, ◌==◌, ◌+◌, ◌≤◌}
use Rattle.std.proofs.Common.{drop, arith, cond, refl, ap, ◌∙◌}
use Rattle.std.proofs.lemmas.List.Sums.{sum_by-cons, sum_by_push, sum_by-append}
use Rattle.std.proofs.lemmas.Bool.Decides.{eqb_tells}
use Rattle.relay_schedule.specs.Queue.{times}

abbrev pub one_if : Bool → ℕ
one_if b = cond b 1 0

pub times-cons : (key first : ℕ) (keys : List ℕ)
    → times key (first ∷ keys) ≡ one_if (first == key) + times key keys
times-cons key first keys = sum_by-cons (λ k. one_if (k == key)) first keys

pub times_push : (key last : ℕ) (keys : List ℕ)
    → times key (keys ++ last ∷ []) ≡ times key keys + one_if (last == key)
times_push key last keys = sum_by_push (λ k. one_if (k == key)) keys last

pub times_append : (key : ℕ) (front back : List ℕ)
    → times key (front ++ back) ≡ times key front + times key back
times_append key front back = sum_by-append (λ k. one_if (k == key)) front back

pub times_first : (key : ℕ) (keys : List ℕ) → times key (key ∷ keys) ≡ 1 + times key keys
times_first key keys = elim (eqb_tells key key) [
  | inl (same, _) ↦ times-cons key key keys ∙ ap (λ b. one_if b + times key keys) same
  | inr (_, apart) ↦ absurd (apart refl)
]

pub times_others : (key first : ℕ) (keys : List ℕ) → (first == key) ≡ false
    → times key (first ∷ keys) ≡ times key keys
times_others key first keys isnt =
    times-cons key first keys ∙ ap (λ b. one_if b + times key keys) isnt ∙ omega arith

pub times_rest : (key : ℕ) (keys : List ℕ) → times key (drop 1 keys) ≤ times key keys
times_rest key [] = omega arith
times_rest key (first ∷ keys) = omega (arith, times-cons key first keys)

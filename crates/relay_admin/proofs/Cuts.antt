-- The parts that `split_once` finds stand before and behind the first mark.
use Rattle.std.proofs.Common.{◌≡◌, ℕ, suc, ◌+◌, ◌<◌, Bool, true, false, not, cond, List, [], ◌∷◌}
use Rattle.std.proofs.Common.{length, take, drop, Some, None, refl, ◌∙◌, ap, arith, ◌==◌}
use Rattle.std.proofs.Common.{if◌then◌else◌}
use Rattle.std.specs.List.{position_or_len, before_first, after_first}
use Rattle.relay_admin.specs.Cut.{until, after}

module _ (mark : ℕ) where
  -- whether a byte is the mark
  abbrev pub is_mark : ℕ → Bool
  is_mark b = b == mark

  pub until-first : (text : List ℕ) → until mark text ≡ before_first is_mark text
  until-first [] = refl
  until-first (b ∷ rest) = by_test (b == mark) (until-first rest)
    where
      by_test : (test : Bool) → until mark rest ≡ before_first is_mark rest
          → (if test then [] else b ∷ until mark rest)
          ≡ take (cond (not test) (1 + position_or_len is_mark rest) 0) (b ∷ rest)
      by_test true later = refl
      by_test false later =
          let one : suc (position_or_len is_mark rest) ≡ 1 + position_or_len is_mark rest =
          omega arith in
          ap (λ l. b ∷ l) later ∙ ap (λ k. take k (b ∷ rest)) one

  pub after-first : (text : List ℕ) → position_or_len is_mark text < length text
      → after mark text ≡ Some (after_first is_mark text)
  after-first [] within = absurd (omega arith)
  after-first (b ∷ rest) within = by_test (b == mark) within (after-first rest)
    where
      by_test : (test : Bool)
          → cond (not test) (1 + position_or_len is_mark rest) 0 < length (b ∷ rest)
          → (position_or_len is_mark rest < length rest
          → after mark rest ≡ Some (after_first is_mark rest))
          → (if test then Some rest else after mark rest)
          ≡ Some (drop (cond (not test) (1 + position_or_len is_mark rest) 0 + 1) (b ∷ rest))
      by_test true within later = refl
      by_test false within later =
          let one : suc (position_or_len is_mark rest + 1)
          ≡ 1 + position_or_len is_mark rest + 1 = omega arith in
          later (omega (arith, within)) ∙ ap (λ k. Some (drop k (b ∷ rest))) one

  pub after-none : (text : List ℕ) → position_or_len is_mark text ≡ length text
      → after mark text ≡ None
  after-none [] e = refl
  after-none (b ∷ rest) e = by_test (b == mark) e (after-none rest)
    where
      by_test : (test : Bool)
          → cond (not test) (1 + position_or_len is_mark rest) 0 ≡ length (b ∷ rest)
          → (position_or_len is_mark rest ≡ length rest → after mark rest ≡ None)
          → (if test then Some rest else after mark rest) ≡ None
      by_test true e later = absurd (omega (arith, e))
      by_test false e later = later (omega (arith, e))

-- The first and the last token of a path.
use Rattle.std.proofs.Common.{◌≡◌, ℕ, zero, suc, ◌-◌, ◌≤◌, List, [], ◌∷◌, ◌++◌, length, take, drop}
use Rattle.std.proofs.Common.{get_or, String, Global, string_bytes, true, false, ◌==◌, refl, sym}
use Rattle.std.proofs.Common.{ap, arith}
use Rattle.std.proofs.lemmas.Bool.Decides.{nat_tests}
use Rattle.std.proofs.lemmas.List.{take_all}
use Rattle.relay_pointer.specs.Index.{Token}
use Rattle.relay_pointer.specs.Path.{Path, path_of}

pub no_tokens : (ts : List (String Global)) → (length ts == 0) ≡ true → path_of ts ≡ []
no_tokens [] h = refl
no_tokens (t ∷ ts) h = absurd (grind (arith, nat_tests))

pub some_tokens : (ts : List (String Global)) → (length ts == 0) ≡ false
    → (t : Token) × (path : Path) × (path_of ts ≡ t ∷ path)
some_tokens [] h = cc
some_tokens (t ∷ ts) h = (_, _, refl)

pub tokens_front : (ts : List (String Global)) (t : String Global) → 1 ≤ length ts
    → t ≡ get_or ts 0 t → path_of ts ≡ string_bytes t ∷ path_of (take (length ts - 1) (drop 1 ts))
tokens_front [] t h is = absurd (omega arith)
tokens_front (x ∷ ts) t h is =
    let all : take (suc (length ts) - 1) ts ≡ ts = take_all _ ts (omega arith) in
    rw all (ap (λ s. string_bytes s ∷ path_of ts) (sym is))

tokens_split : (ts : List (String Global)) (t : String Global) (n : ℕ) → length ts ≡ suc n
    → t ≡ get_or ts n t → path_of ts ≡ path_of (take n ts) ++ string_bytes t ∷ []
tokens_split (x ∷ []) t zero h is = ap (λ s. string_bytes s ∷ []) (sym is)
tokens_split (x ∷ ts) t (suc n) h is =
    ap (λ p. string_bytes x ∷ p) (tokens_split ts t n (omega arith) is)
tokens_split _ t _ h is = absurd (omega arith)

pub tokens_back : (ts : List (String Global)) (t : String Global) → 1 ≤ length ts
    → t ≡ get_or ts (length ts - 1) t
    → path_of ts ≡ path_of (take (length ts - 1) ts) ++ string_bytes t ∷ []
tokens_back ts t h is = tokens_split ts t (length ts - 1) (omega arith) is

pub path_of-push : (ts : List (String Global)) (s : String Global)
    → path_of (ts ++ s ∷ []) ≡ path_of ts ++ string_bytes s ∷ []
path_of-push [] s = refl
path_of-push (t ∷ ts) s = ap (λ p. string_bytes t ∷ p) (path_of-push ts s)

-- the last token of a path that is not empty
pub tokens_last : (ts : List (String Global)) → 1 ≤ length ts
    → (t : Token) × (path_of ts ≡ path_of (take (length ts - 1) ts) ++ t ∷ [])
tokens_last ts h = go ts (length ts - 1) (omega arith)
  where
    go : (xs : List (String Global)) (n : ℕ) → length xs ≡ suc n
        → (t : Token) × (path_of xs ≡ path_of (take n xs) ++ t ∷ [])
    go [] n e = absurd (omega arith)
    go (x ∷ []) zero e = (string_bytes x, refl)
    go (x ∷ []) (suc n) e = absurd (omega arith)
    go (x ∷ y ∷ xs) zero e = absurd (omega arith)
    go (x ∷ y ∷ xs) (suc n) e = let r = go (y ∷ xs) n (omega arith) in
        (r.0, ap (λ p. string_bytes x ∷ p) r.1)

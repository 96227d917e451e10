-- Names that are equal, and their order.
use Rattle.std.proofs.Common.{◌≡◌, ℕ, List, Bool, true, false, refl, sym, ap, ◌∙◌, bytes_eq, is_eq}
use Rattle.std.proofs.Common.{Equal, nat_cmp}
use Rattle.std.specs.Cmp.Lexicographic.{slice_cmp}
use Rattle.std.proofs.lemmas.Map.Text.{is_eq-slice_cmp}
use Rattle.std.proofs.lemmas.Slice.Eq.{bytes_eq-Decides}

pub bytes_same : (a : List ℕ) → bytes_eq a a ≡ true
bytes_same a = (bytes_eq-Decides a a).1 refl

pub equal_bytes : (a b : List ℕ) → bytes_eq a b ≡ true → a ≡ b
equal_bytes a b = (bytes_eq-Decides a b).0

-- names are equal exactly if neither sorts before the other
pub bytes_eq-slice_cmp : (n k : List ℕ) → bytes_eq n k ≡ is_eq (slice_cmp nat_cmp k n)
bytes_eq-slice_cmp n k = go (bytes_eq n k) (bytes_eq k n) refl refl ∙ sym (is_eq-slice_cmp k n)
  where
    go : (a b : Bool) → bytes_eq n k ≡ a → bytes_eq k n ≡ b → a ≡ b
    go true true e f = refl
    go false false e f = refl
    go true false e f =
        let t : bytes_eq k n ≡ true = (bytes_eq-Decides k n).1 (sym ((bytes_eq-Decides n k).0 e)) in
        cc
    go false true e f =
        let t : bytes_eq n k ≡ true = (bytes_eq-Decides n k).1 (sym ((bytes_eq-Decides k n).0 f)) in
        cc

pub equal_names : (k n : List ℕ) → slice_cmp nat_cmp k n ≡ Equal → k ≡ n
equal_names k n h = sym ((bytes_eq-Decides n k).0 (bytes_eq-slice_cmp n k ∙ ap is_eq h))

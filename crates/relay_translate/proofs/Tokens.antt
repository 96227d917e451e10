-- The tokens of a path that is built token by token.
use Rattle.std.proofs.Common.{◌≡◌, ℕ, zero, suc, ◌≤◌, List, [], ◌∷◌, ◌++◌, length, take, drop}
use Rattle.std.proofs.Common.{String, Global, string_bytes, append-nil, refl, sym, ap, ◌∙◌, arith}
use Rattle.std.specs.List.{slice_range}
use Rattle.std.proofs.lemmas.List.Folds.{drop_split}
use Rattle.relay_pointer.specs.Index.{Token}
use Rattle.relay_pointer.specs.Path.{Path, path_of}
use Rattle.relay_patch.proofs.Tokens.{parent_end}
use Rattle.relay_translate.specs.SlotIndex.{container}

pub path_of-drop : (n : ℕ) (ts : List (String Global)) → path_of (drop n ts) ≡ drop n (path_of ts)
path_of-drop (suc n) (t ∷ ts) = path_of-drop n ts
path_of-drop _ _ = refl

-- what lies past the end is nothing
pub path_of-past : (n : ℕ) (ts : List (String Global)) → length ts ≤ n → drop n (path_of ts) ≡ []
path_of-past zero [] h = refl
path_of-past zero (t ∷ ts) h = absurd (omega arith)
path_of-past (suc n) [] h = refl
path_of-past (suc n) (t ∷ ts) h = path_of-past n ts (omega arith)

none_behind : (ts : List (String Global)) → drop (length ts) ts ≡ []
none_behind [] = refl
none_behind (t ∷ ts) = none_behind ts

-- the range from the n-th to the end
pub path_of-range : (n : ℕ) (ts : List (String Global)) → n ≤ length ts
    → path_of (slice_range ts n (length ts)) ≡ drop n (path_of ts)
path_of-range n ts h =
    ap path_of (sym (append-nil (slice_range ts n (length ts)))
    ∙ (ap (λ rest. slice_range ts n (length ts) ++ rest) (sym (none_behind ts))
    ∙ sym (drop_split ts n (length ts) h)))
    ∙ path_of-drop n ts

pub path_of-take : (n : ℕ) (ts : List (String Global)) → path_of (take n ts) ≡ take n (path_of ts)
path_of-take (suc n) (t ∷ ts) = ap (λ path. string_bytes t ∷ path) (path_of-take n ts)
path_of-take _ _ = refl

pub container_end : (before : Path) (t : Token) → container (before ++ t ∷ []) ≡ before
container_end [] t = refl
container_end (u ∷ before) t = parent_end u before t

pub path_of-length : (ts : List (String Global)) → length ts ≡ length (path_of ts)
path_of-length [] = refl
path_of-length (t ∷ ts) = ap suc (path_of-length ts)

-- Paths that are the same, and paths that begin with one another.
use Rattle.std.proofs.Common.{◌≡◌, List, [], ◌∷◌, ◌++◌, Bool, true, false, ◌&&◌, String, Global}
use Rattle.std.proofs.Common.{string_eq, refl, sym, ap, ◌∙◌, bytes_eq}
use Rattle.std.specs.List.{starts_with}
use Rattle.relay_tree.proofs.Names.{bytes_same, equal_bytes}
use Rattle.relay_pointer.specs.Index.{Token}
use Rattle.relay_pointer.specs.Path.{Path, path_of, same_path, is_prefix, is_proper_prefix}
use Rattle.relay_tree.proofs.Equal.{both}

pub same_path-end : (a b : Path) (t u : Token)
    → same_path (a ++ t ∷ []) (b ++ u ∷ []) ≡ (same_path a b && bytes_eq t u)
same_path-end [] [] t u = go (bytes_eq t u)
  where
    go : (x : Bool) → (x && true) ≡ x
    go true = refl
    go false = refl
same_path-end [] (y ∷ []) t u = never (bytes_eq t y)
  where
    never : (x : Bool) → (x && false) ≡ false
    never true = refl
    never false = refl
same_path-end [] (y ∷ z ∷ b) t u = never (bytes_eq t y)
  where
    never : (x : Bool) → (x && false) ≡ false
    never true = refl
    never false = refl
same_path-end (x ∷ []) [] t u = never (bytes_eq x u)
  where
    never : (y : Bool) → (y && false) ≡ false
    never true = refl
    never false = refl
same_path-end (x ∷ z ∷ a) [] t u = never (bytes_eq x u)
  where
    never : (y : Bool) → (y && false) ≡ false
    never true = refl
    never false = refl
same_path-end (x ∷ a) (y ∷ b) t u =
    ap (λ r. bytes_eq x y && r) (same_path-end a b t u)
    ∙ sym (and_assoc (bytes_eq x y) (same_path a b) (bytes_eq t u))
  where
    and_assoc : (p q r : Bool) → ((p && q) && r) ≡ (p && (q && r))
    and_assoc true q r = refl
    and_assoc false q r = refl

pub same_itself : (p : Path) → same_path p p ≡ true
same_itself [] = refl
same_itself (t ∷ p) = rw (bytes_same t) (same_itself p)

pub equal_paths : (p q : Path) → same_path p q ≡ true → p ≡ q
equal_paths [] [] h = refl
equal_paths (t ∷ p) (u ∷ q) h =
    let b = both (bytes_eq t u) (same_path p q) h in
    let first : t ≡ u = equal_bytes t u b.0 in
    let rest : p ≡ q = equal_paths p q b.1 in
    cc
equal_paths _ _ h = cc

pub other_parent : (from path before parent : Path) (t l : Token) → from ≡ before ++ t ∷ []
    → path ≡ parent ++ l ∷ [] → same_path before parent ≡ false → same_path from path ≡ false
other_parent from path before parent t l is goes other =
    rw (is, goes, same_path-end before parent t l, other) refl

pub and_false : (x : Bool) → (x && false) ≡ false
and_false true = refl
and_false false = refl

pub proper_prefix_last : (f before : Path) (a b : Token)
    → is_proper_prefix f (before ++ a ∷ []) ≡ is_proper_prefix f (before ++ b ∷ [])
proper_prefix_last [] [] a b = refl
proper_prefix_last [] (t ∷ before) a b = refl
proper_prefix_last (u ∷ []) [] a b = rw (and_false (bytes_eq u a), and_false (bytes_eq u b)) refl
proper_prefix_last (u ∷ w ∷ f) [] a b = rw (and_false (bytes_eq u a), and_false (bytes_eq u b)) refl
proper_prefix_last (u ∷ f) (t ∷ before) a b =
    ap (λ x. bytes_eq u t && x) (proper_prefix_last f before a b)

-- a list of texts starts with another exactly if its path begins with that one's
pub starts_with-is_prefix : (others own : List (String Global))
    → starts_with string_eq others own ≡ is_prefix (path_of own) (path_of others)
starts_with-is_prefix others [] = refl
starts_with-is_prefix [] (t ∷ own) = refl
starts_with-is_prefix (u ∷ others) (t ∷ own) =
    ap (λ x. string_eq t u && x) (starts_with-is_prefix others own)

-- The order of paths, and the run of those that begin with one.
use Rattle.std.proofs.Common.{◌≡◌, ◌≤◌, length, arith, [], ◌∷◌, true, false, ◌&&◌, refl, sym, ap}
use Rattle.std.proofs.Common.{subst, is_eq, is_gt, Ordering, Less, Equal, Greater, nat_cmp, List}
use Rattle.std.proofs.Common.{String, Global, string_bytes, Bool, bytes_eq}
use Rattle.std.specs.Ordering.{ordering_then, ordering_reverse}
use Rattle.std.specs.Cmp.{tied_itself}
use Rattle.std.specs.Cmp.Lexicographic.{slice_cmp, nat_list_cmp_total}
use Rattle.relay_tree.proofs.Names.{bytes_eq-slice_cmp, equal_bytes}
use Rattle.relay_pointer.specs.Path.{Path, path_of, same_path, is_prefix}

-- compares paths token by token, and tokens byte by byte; a path is less than those of which it is
-- a proper prefix
abbrev pub path_cmp : Path → Path → Ordering
path_cmp p q = slice_cmp (slice_cmp nat_cmp) p q

abbrev pub text_cmp : String Global → String Global → Ordering
text_cmp a b = slice_cmp nat_cmp (string_bytes a) (string_bytes b)

-- lists of texts compare as their paths
pub texts_cmp : (ts us : List (String Global))
    → slice_cmp text_cmp ts us ≡ path_cmp (path_of ts) (path_of us)
texts_cmp [] [] = refl
texts_cmp [] (u ∷ us) = refl
texts_cmp (t ∷ ts) [] = refl
texts_cmp (t ∷ ts) (u ∷ us) = ap (ordering_then (text_cmp t u)) (texts_cmp ts us)

then_equal : (r s : Ordering) → is_eq (ordering_then r s) ≡ (is_eq r && is_eq s)
then_equal Less s = refl
then_equal _ s = refl

-- paths are the same exactly if they compare as equal
pub same_path-cmp : (p q : Path) → same_path p q ≡ is_eq (path_cmp q p)
same_path-cmp [] [] = refl
same_path-cmp [] (u ∷ q) = refl
same_path-cmp (t ∷ p) [] = refl
same_path-cmp (t ∷ p) (u ∷ q) =
    rw (bytes_eq-slice_cmp t u, same_path-cmp p q)
    (sym (then_equal (slice_cmp nat_cmp u t) (path_cmp q p)))

-- a path is not greater than one that begins with it
pub prefix_first : (p q : Path) → is_prefix p q ≡ true → is_gt (path_cmp p q) ≡ false
prefix_first [] [] h = refl
prefix_first [] (u ∷ q) h = refl
prefix_first (t ∷ p) [] h = cc
prefix_first (t ∷ p) (u ∷ q) h = go (bytes_eq t u) refl h (prefix_first p q)
  where
    go : (x : Bool) → bytes_eq t u ≡ x → (x && is_prefix p q) ≡ true
        → (is_prefix p q ≡ true → is_gt (path_cmp p q) ≡ false)
        → is_gt (ordering_then (slice_cmp nat_cmp t u) (path_cmp p q)) ≡ false
    go true e k rest = rw (← equal_bytes t u e, tied_itself nat_list_cmp_total t) (rest k)
    go false e k rest = cc

abbrev pub Between : Path → Path → Path → Type 0
Between p a b = is_gt (path_cmp p a) ≡ false → path_cmp a b ≡ Less → is_prefix p b ≡ true
    → is_prefix p a ≡ true

-- what is between a path and one that begins with it begins with it too
pub between_prefix : (p a b : Path) → Between p a b
between_prefix [] a b low high h = refl
between_prefix (t ∷ p) [] b low high h = cc
between_prefix (t ∷ p) (x ∷ a) [] low high h = cc
between_prefix (t ∷ p) (x ∷ a) (y ∷ b) low high h = go (bytes_eq t y) refl h (between_prefix p a b)
  where
    by_order : Between p a b → (r : Ordering) → slice_cmp nat_cmp x t ≡ r
        → is_gt (ordering_then (ordering_reverse r) (path_cmp p a)) ≡ false
        → ordering_then r (path_cmp a b) ≡ Less → is_prefix p b ≡ true
        → (bytes_eq t x && is_prefix p a) ≡ true
    by_order rest Less e k l m = cc
    by_order rest Equal e k l m = rw (bytes_eq-slice_cmp t x, e) (rest k l m)
    by_order rest Greater e k l m = cc

    go : (z : Bool) → bytes_eq t y ≡ z → (z && is_prefix p b) ≡ true → Between p a b
        → (bytes_eq t x && is_prefix p a) ≡ true
    go true e k rest =
        let same : t ≡ y = equal_bytes t y e in
        by_order rest (slice_cmp nat_cmp x t) refl
        (subst (λ r. is_gt (ordering_then r (path_cmp p a)) ≡ false)
        (nat_list_cmp_total.antisymm t x) low)
        (subst (λ u. ordering_then (slice_cmp nat_cmp x u) (path_cmp a b) ≡ Less) (sym same) high) k
    go false e k rest = cc

-- what begins with a path is as long
pub prefix_length : (p q : Path) → is_prefix p q ≡ true → length p ≤ length q
prefix_length [] q h = omega arith
prefix_length (t ∷ p) [] h = cc
prefix_length (t ∷ p) (u ∷ q) h = go (bytes_eq t u) h (prefix_length p q)
  where
    go : (x : Bool) → (x && is_prefix p q) ≡ true → (is_prefix p q ≡ true → length p ≤ length q)
        → length (t ∷ p) ≤ length (u ∷ q)
    go true k rest = let less = rest k in omega (arith, less)
    go false k rest = cc

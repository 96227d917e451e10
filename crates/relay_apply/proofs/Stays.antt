-- The moves that return a part to the place that it had.
use Rattle.std.proofs.Common.{◌≡◌, ℕ, suc, [], ◌∷◌, ◌++◌, Bool, true, false, ◌&&◌, ◌||◌, Some}
use Rattle.std.proofs.Common.{Result, Ok, refl, sym, ap, ◌∙◌, bytes_eq, nat_eq, ◌==◌, ◌<◌, ◌-◌, ◌+◌}
use Rattle.std.proofs.Common.{◌^◌, min, List, length, if◌then◌else◌, arith}
use Rattle.std.proofs.lemmas.Bool.Decides.{nat_tests}
use Rattle.relay_tree.specs.Document.{Document, null, list, object, Items, items_of}
use Rattle.relay_tree.specs.Part.{items_length}
use Rattle.relay_tree.proofs.Elements.{items_length-items_of, drop_item-shorter}
use Rattle.relay_tree.proofs.Names.{equal_bytes}
use Rattle.relay_pointer.specs.Index.{Token, index_of, number_of, index_text}
use Rattle.relay_pointer.specs.Path.{Path, at, same_path}
use Rattle.relay_pointer.proofs.Indexes.{last_index}
use Rattle.relay_pointer.proofs.Walks.{some_index}
use Rattle.relay_patch.specs.Walk.{then_do, dash, is_dash, walk}
use Rattle.relay_patch.specs.declared.fault.Cause.{Cause}
use Rattle.relay_patch.specs.Place.{place_within, place_of, canonical}
use Rattle.relay_patch.specs.Patch.{at_path, drop_child, replaced}
use Rattle.relay_apply.specs.Steps.{is_end, ends, is_same_end}
use Rattle.relay_patch.proofs.Refusals.{then_ok}
use Rattle.relay_patch.proofs.Parts.{no_dash}
use Rattle.relay_patch.proofs.Tokens.{place_of-end}
use Rattle.relay_patch.proofs.Walks.{at_reached}
use Rattle.relay_patch.proofs.Exchanges.{at_end, walk-replaced}
use Rattle.relay_apply.proofs.Drops.{shorter, fewer}
use Rattle.relay_patch.proofs.Made.{within_last}
use Rattle.relay_pointer.proofs.Prefixes.{same_path-end, same_itself, equal_paths}

-- the last token of a place in a container
abbrev token_within : Document → Token → Token
token_within (list ds) t = canonical ds t
token_within d t = t

place_within-token : (c : Document) (before : Path) (t : Token)
    → (place_within (Some c) before t).path ≡ before ++ token_within c t ∷ []
place_within-token null before t = refl
place_within-token _ before t = refl

or_false : (x : Bool) → (x || false) ≡ x
or_false true = refl
or_false false = refl

same_end : (c c' : Document) (t l : Token) → drop_child t c ≡ Ok c'
    → bytes_eq t (token_within c' l) ≡ is_same_end (Ok c) t l
same_end (list ds) c' t l h =
    let s = shorter ds t c' h in
    rw (s.is, s.named) (go (is_dash l) refl s.index s.items s.named
    (drop_item-shorter ds s.index s.items s.gone).0)
  where
    go : (x : Bool) → is_dash l ≡ x → (i : ℕ) (es : Items) → index_of t ≡ Some i
        → suc (items_length es) ≡ items_length ds
        → bytes_eq t (if is_dash l then index_text (items_length es) else l)
        ≡ (bytes_eq t l || (is_dash l && (i + 1 == items_length ds)))
    go true e i es named len =
        let dash_end : l ≡ dash = equal_bytes l dash e in
        let other : bytes_eq t l ≡ false = ap (bytes_eq t) dash_end ∙ no_dash t i named in
        rw (e, other, ← len) (last_index t i (items_length es) named)
    go false e i es named len = rw e (sym (or_false (bytes_eq t l)))
same_end (object ms) c' t l h =
    let s = fewer ms t c' h in
    rw s.is (go (is_dash l))
  where
    go : (x : Bool) → bytes_eq t l ≡ (bytes_eq t l || (x && false))
    go true = sym (or_false (bytes_eq t l))
    go false = sym (or_false (bytes_eq t l))
same_end _ c' t l h = cc

pub comes_back : (from path before parent : Path) (t l : Token) (d : Document)
    → from ≡ before ++ t ∷ [] → path ≡ parent ++ l ∷ [] → same_path before parent ≡ true
    → (rest : Document) → at_path drop_child from d ≡ Ok rest
    → is_same_end (walk d before) t l ≡ same_path from (place_of rest path).path
comes_back from path before parent t l d is goes same rest dropped =
    let whole = sym (at_end drop_child before t d) ∙ rw is at dropped in
    let w = then_ok (walk d before) (λ c.
    then_do (drop_child t c) (λ c'. replaced before c' d)) rest whole in
    let a = then_ok (drop_child t w.0) (λ c'. replaced before c' d) rest w.2 in
    let there : at rest before ≡ Some a.0 =
    at_reached before rest a.0 (walk-replaced before a.0 d rest a.2) in
    rw (
      is,
      goes,
      ← equal_paths before parent same,
      w.1,
      place_of-end rest before l,
      there,
      place_within-token a.0 before l,
      same_path-end before before t (token_within a.0 l),
      same_itself before,
    ) (sym (same_end w.0 a.0 t l a.1))

pub goes_elsewhere : (from path before parent : Path) (t l : Token) (d : Document)
    → from ≡ before ++ t ∷ [] → path ≡ parent ++ l ∷ [] → same_path before parent ≡ false
    → (rest : Document) → false ≡ same_path from (place_of rest path).path
goes_elsewhere from path before parent t l d is goes other rest =
    let w = within_last (at rest parent) parent l in
    rw (is, goes, place_of-end rest parent l, w.1, same_path-end before parent t w.0, other) refl

pub other_end : (from path before parent : Path) (t l : Token) (r : Result Document Cause)
    → from ≡ before ++ t ∷ [] → path ≡ parent ++ l ∷ [] → is_same_end r t l ≡ false
    → same_path from path ≡ false
other_end from path before parent t l r is goes other =
    rw (
      is,
      goes,
      same_path-end before parent t l,
      not_first (bytes_eq t l) other,
    ) (never (same_path before parent))
  where
    not_first : (x : Bool) → (x || (is_dash l && ends r t)) ≡ false → x ≡ false
    not_first true h = h
    not_first false h = refl

    never : (x : Bool) → (x && false) ≡ false
    never true = refl
    never false = refl

-- the last element of a queue
pub is_end-items_of : (xs : List Document) (t : Token) (n k : ℕ) → length xs < 2 ^ 63
    → Some n ≡ number_of t → k ≡ min (n + 1) (2 ^ 64 - 1)
    → nat_eq k (length xs) ≡ is_end (list (items_of xs)) t
is_end-items_of xs t n k few is more =
    let s = some_index (index_of t) n is in
    let least = s.2 in
    rw (s.1, items_length-items_of xs) (go (s.0 + 1 == length xs) s.0 refl least)
  where
    go : (x : Bool) (i : ℕ) → (i + 1 == length xs) ≡ x → n ≡ min (2 ^ 64 - 1) i
        → nat_eq k (length xs) ≡ x
    go true i e least = grind (arith, nat_tests)
    go false i e least = grind (arith, nat_tests)

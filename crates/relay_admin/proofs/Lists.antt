-- The items that fields list, one after another.
use Rattle.std.proofs.Common.{◌≡◌, ℕ, suc, ◌+◌, ◌<◌, Bool, true, false, if◌then◌else◌, List, []}
use Rattle.std.proofs.Common.{◌∷◌, ◌++◌, length, map, drop, get_or, refl, sym, ◌∙◌, ap}
use Rattle.std.proofs.Common.{append_assoc, add-one}
use Rattle.std.proofs.Math.Seq.{drop-cons}
use Rattle.std.specs.Str.{str_eq_ignore_ascii_case}
use Rattle.httparse.specs.Borrowed.{header_parts}
use Rattle.httparse.specs.declared.borrowed.Header.{Header}
use Rattle.relay_http_head.specs.Head.{Fields}
use Rattle.relay_admin.specs.Conditions.{listed}

listed-cons : (name : List ℕ) (field : List ℕ × List ℕ) (fields : Fields)
    → listed name (field ∷ fields) ≡ listed name (field ∷ []) ++ listed name fields
listed-cons name field fields = by_test (str_eq_ignore_ascii_case field.0 name)
  where
    by_test : (test : Bool)
        → (if test then field.1 ++ 44 ∷ listed name fields else listed name fields)
        ≡ (if test then field.1 ++ 44 ∷ [] else []) ++ listed name fields
    by_test true = sym (append_assoc field.1 (44 ∷ []) (listed name fields))
    by_test false = refl

-- what the fields from a place on list: what the first of them lists, and what the others do
pub listed_first : (name : List ℕ) (fields : List Header) (i : ℕ) (d : Header) → i < length fields
    → listed name (map header_parts (drop i fields))
    ≡ listed name (header_parts (get_or fields i d) ∷ [])
    ++ listed name (map header_parts (drop (i + 1) fields))
listed_first name fields i d within =
    ap (λ l. listed name (map header_parts l)) (drop-cons fields i d within)
    ∙ listed-cons name (header_parts (get_or fields i d)) (map header_parts (drop (suc i) fields))
    ∙ ap (λ k. listed name (header_parts (get_or fields i d) ∷ [])
    ++ listed name (map header_parts (drop k fields))) (sym (add-one i))

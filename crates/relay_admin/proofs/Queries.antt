-- Unescaped bytes are what UTF-8 allows.
use Rattle.std.proofs.Common.{◌≡◌, ℕ, Bool, true, false, List, Some, None, refl, sym, if◌then◌else◌}
use Rattle.std.proofs.Common.{◌&&◌, IsUtf8}
use Rattle.std.specs.Str.{is_utf8}
use Rattle.std.proofs.lemmas.Str.{IsUtf8-from_is_utf8, is_utf8-from_IsUtf8}
use Rattle.percent_encoding.specs.Percent.{percent_decode}
use Rattle.relay_admin.specs.Query.{has_whole_escapes, unescaped}

-- a text with whole escapes that are UTF-8, or are not
pub unescaped_is : (text : List ℕ) → has_whole_escapes text ≡ true
    → IsUtf8 (percent_decode text) → unescaped text ≡ Some (percent_decode text)
unescaped_is text whole utf8 = rw (whole, is_utf8-from_IsUtf8 _ utf8) refl

pub unescaped_none : (text : List ℕ) → (IsUtf8 (percent_decode text) → ⊥) → unescaped text ≡ None
unescaped_none text never = by_tests (has_whole_escapes text) (is_utf8 (percent_decode text)) refl
  where
    by_tests : (whole utf8 : Bool) → utf8 ≡ is_utf8 (percent_decode text)
        → (if whole && utf8 then Some (percent_decode text) else None) ≡ None
    by_tests true true e = absurd (never (IsUtf8-from_is_utf8 (percent_decode text) (sym e)))
    by_tests true false e = refl
    by_tests false utf8 e = refl

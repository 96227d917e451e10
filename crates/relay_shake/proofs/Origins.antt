-- The text of an origin is ASCII, and so UTF-8.
use Rattle.std.proofs.Common.{◌≡◌, ◌∷◌, ◌&&◌, ℕ, Bool, List, [], true, false, refl, arith, IsUtf8}
use Rattle.std.proofs.Common.{IsAscii}
use Rattle.std.proofs.lemmas.Bool.Decides.{nat_tests}
use Rattle.std.proofs.lemmas.Str.{IsUtf8-from_ascii}
use Rattle.std.proofs.lemmas.Str.Ascii.{IsAscii-nil, IsAscii-cons}
use Rattle.std.specs.List.{list_all}
use Rattle.relay_shake.specs.Origin.{is_origin_byte}

both : (a b : Bool) → (a && b) ≡ true → (a ≡ true) × (b ≡ true)
both true true e = (refl, refl)
both true false e = absurd (cc)
both false b e = absurd (cc)

ascii : (bytes : List ℕ) → list_all is_origin_byte bytes ≡ true → IsAscii bytes
ascii [] e = IsAscii-nil
ascii (b ∷ bytes) e =
    let (first, rest) = both (is_origin_byte b) (list_all is_origin_byte bytes) e in
    IsAscii-cons b bytes (grind (arith, nat_tests, first)) (ascii bytes rest)

pub origin_utf8 : (bytes : List ℕ) → list_all is_origin_byte bytes ≡ true → IsUtf8 bytes
origin_utf8 bytes e = IsUtf8-from_ascii bytes (ascii bytes e)

-- The tokens that are the index of an element (RFC 6901, section 4).
use Rattle.std.specs.Prelude.{ℕ, zero, suc, ◌+◌, ◌-◌, ◌*◌, ◌/◌, ◌%◌, ◌^◌, ◌++◌, min, List, [], ◌∷◌}
use Rattle.std.specs.Prelude.{length, Bool, false, ◌&&◌, ◌||◌, ◌==◌, nat_lt, nat_le, Option, Some}
use Rattle.std.specs.Prelude.{None, option_map, if◌then◌else◌}
use Rattle.std.specs.List.{list_all}

-- the bytes of a token, with nothing escaped
abbrev pub Token : Type 0
Token = List ℕ

abbrev pub is_digit : ℕ → Bool
is_digit b = nat_le 48 b && nat_le b 57

-- one or more digits, of which the first is 0 only if it is the only one
abbrev pub is_index : Token → Bool
is_index [] = false
is_index (b ∷ bs) = list_all is_digit (b ∷ bs) && (nat_lt 48 b || (length bs == 0))

-- the number n continued by decimal digits
abbrev pub number_onto : ℕ → List ℕ → ℕ
number_onto n [] = n
number_onto n (b ∷ bs) = number_onto (n * 10 + (b - 48)) bs

-- the number of a token that is an index, however large
unfoldable pub index_of : Token → Option ℕ
index_of t = if is_index t then Some (number_onto 0 t) else None

-- the number of an index, or 2 ^ 64 - 1 if it is larger than that
abbrev pub number_of : Token → Option ℕ
number_of t = option_map (min (2 ^ 64 - 1)) (index_of t)

-- the digits of a number that has at most k + 1 of them
abbrev pub spell : ℕ → ℕ → Token
spell zero n = (48 + n % 10) ∷ []
spell (suc k) n = if nat_lt n 10 then (48 + n) ∷ [] else spell k (n / 10) ++ (48 + n % 10) ∷ []

-- the index that spells a number
unfoldable pub index_text : ℕ → Token
index_text n = spell n n

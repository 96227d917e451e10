-- The path and the query of a target, and the pointer that a query names (RFC 3986, sections 2.1,
-- 3.3 and 3.4; RFC 6901).
use Rattle.std.specs.Prelude.{ℕ, Bool, true, false, not, ◌==◌, ◌&&◌, ◌||◌, if◌then◌else◌, List, []}
use Rattle.std.specs.Prelude.{◌∷◌, codes, Option, Some, None, option_and_then}
use Rattle.std.specs.Char.{is_ascii_hexdigit}
use Rattle.std.specs.List.{list_any}
use Rattle.std.specs.Str.{is_utf8}
use Rattle.percent_encoding.specs.Percent.{percent_decode}
use Rattle.relay_admin.specs.Cut.{behind, until, after}

-- the path: what stands before the first `?`
abbrev pub path_of : List ℕ → List ℕ
path_of name = until 63 name

-- the query: what stands behind the first `?`, if there is one
abbrev pub query_of : List ℕ → Option (List ℕ)
query_of name = after 63 name

-- two hexadecimal digits come first
abbrev pub begins_hex : List ℕ → Bool
begins_hex (high ∷ low ∷ rest) = is_ascii_hexdigit high && is_ascii_hexdigit low
begins_hex _ = false

-- each `%` is followed by two hexadecimal digits
abbrev pub has_whole_escapes : List ℕ → Bool
has_whole_escapes [] = true
has_whole_escapes (b ∷ rest) = (not (b == 37) || begins_hex rest) && has_whole_escapes rest

-- the text that is escaped, if the escapes are whole and it is UTF-8; a `+` stays a plus
abbrev pub unescaped : List ℕ → Option (List ℕ)
unescaped text =
    if has_whole_escapes text && is_utf8 (percent_decode text) then Some (percent_decode text)
    else None

-- the one value of a query: an `&` would begin another
abbrev pub only_one : List ℕ → Option (List ℕ)
only_one value = if list_any (λ b. b == 38) value then None else unescaped value

-- the pointer that a query names, which is exactly one `at=`; the whole document without a query
abbrev pub pointer_in : Option (List ℕ) → Option (List ℕ)
pointer_in None = Some []
pointer_in (Some query) = option_and_then only_one (behind (codes "at=") query)

-- The origins that `--origin` takes: those by which a browser names the site of a page (RFC 6454,
-- section 7).
use Rattle.std.specs.Prelude.{ℕ, ◌==◌, ◌&&◌, ◌||◌, Bool, true, false, not, if◌then◌else◌}
use Rattle.std.specs.Prelude.{[], ◌∷◌, bytes_eq, codes, length, nat_le, nat_lt}
use Rattle.std.specs.Char.{is_ascii_digit, is_ascii_lowercase}
use Rattle.std.specs.List.{after_first, before_first, list_all, position_or_len}
use Rattle.clap.specs.Words.{Text}

-- a mark stands in the text; what stands before the first one, and what stands behind it

abbrev pub has : ℕ → Text → Bool
has mark text = nat_lt (position_or_len (λ b. b == mark) text) (length text)

abbrev pub until : ℕ → Text → Text
until mark text = before_first (λ b. b == mark) text

abbrev pub behind : ℕ → Text → Text
behind mark text = after_first (λ b. b == mark) text

-- a lower-case letter, and behind it such letters, digits, `+`, `-` and `.`

abbrev pub is_scheme_byte : ℕ → Bool
is_scheme_byte b = is_ascii_lowercase b || is_ascii_digit b || b == 43 || b == 45 || b == 46

abbrev pub is_scheme : Text → Bool
is_scheme [] = false
is_scheme (b ∷ rest) = is_ascii_lowercase b && list_all is_scheme_byte rest

-- a name or an IPv4 address: lower-case letters, digits, `-`, `.` and `_`

abbrev pub is_name_byte : ℕ → Bool
is_name_byte b = is_ascii_lowercase b || is_ascii_digit b || b == 45 || b == 46 || b == 95

abbrev pub is_name : Text → Bool
is_name text = nat_le 1 (length text) && list_all is_name_byte text

-- the form of an IPv6 address: lower-case hexadecimal digits and `:`

abbrev pub is_address_byte : ℕ → Bool
is_address_byte b = is_ascii_digit b || (nat_le 97 b && nat_le b 102) || b == 58

abbrev pub is_address : Text → Bool
is_address text = nat_le 1 (length text) && list_all is_address_byte text

-- one to five digits, the first of them not 0
abbrev pub is_number : Text → Bool
is_number [] = false
is_number (b ∷ rest) =
    nat_le 49 b && nat_le b 57 && nat_le (length rest) 4 && list_all is_ascii_digit rest

-- the port of a scheme, which browsers leave out
abbrev pub is_default : Text → Text → Bool
is_default scheme port =
    (bytes_eq scheme (codes "http") && bytes_eq port (codes "80"))
    || (bytes_eq scheme (codes "https") && bytes_eq port (codes "443"))

abbrev pub is_port : Text → Text → Bool
is_port scheme port = is_number port && not (is_default scheme port)

-- a name, alone or with a port
abbrev pub is_named : Text → Text → Bool
is_named scheme site =
    if has 58 site then is_name (until 58 site) && is_port scheme (behind 58 site)
    else is_name site

-- no port, or `:` and a port
abbrev pub ends_site : Text → Text → Bool
ends_site scheme [] = true
ends_site scheme (b ∷ port) = b == 58 && is_port scheme port

-- an address and `]`, alone or with a port
abbrev pub is_addressed : Text → Text → Bool
is_addressed scheme site =
    has 93 site && is_address (until 93 site) && ends_site scheme (behind 93 site)

-- an address, which begins with `[`, or a name
abbrev pub is_site : Text → Text → Bool
is_site scheme [] = false
is_site scheme (b ∷ rest) =
    if b == 91 then is_addressed scheme rest else is_named scheme (b ∷ rest)

-- `//` and a site
abbrev pub is_authority : Text → Text → Bool
is_authority scheme (a ∷ b ∷ site) = a == 47 && b == 47 && is_site scheme site
is_authority scheme _ = false

-- a scheme, `://` and a host, alone or with a port; or `null`
abbrev pub is_origin : Text → Bool
is_origin text =
    if has 58 text then is_scheme (until 58 text) && is_authority (until 58 text) (behind 58 text)
    else bytes_eq text (codes "null")

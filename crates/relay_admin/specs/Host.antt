-- The hosts that a request may name (RFC 9110, section 7.2).
use Rattle.std.specs.Prelude.{ℕ, Bool, true, ◌==◌, ◌&&◌, ◌||◌, nat_lt, nat_le, List, [], ◌∷◌}
use Rattle.std.specs.Prelude.{length, take, drop, codes}
use Rattle.std.specs.List.{list_all}
use Rattle.std.specs.Str.{str_eq_ignore_ascii_case}
use Rattle.std.specs.Char.{is_ascii_digit}

-- no port, or a colon and at least one digit
abbrev pub is_port : List ℕ → Bool
is_port [] = true
is_port (b ∷ digits) = (b == 58) && nat_lt 0 (length digits) && list_all is_ascii_digit digits

-- the name in any case, alone or with a port
abbrev pub names : List ℕ → List ℕ → Bool
names name value =
    nat_le (length name) (length value) && str_eq_ignore_ascii_case (take (length name) value) name
    && is_port (drop (length name) value)

-- a name or an address of the loopback
abbrev pub is_loopback : List ℕ → Bool
is_loopback value =
    names (codes "localhost") value || names (codes "127.0.0.1") value
    || names (codes "[::1]") value

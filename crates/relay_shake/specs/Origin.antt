-- The origin of the page that sends a head (RFC 6454, section 7; RFC 6455, section 4.1).
use Rattle.std.specs.Prelude.{ℕ, Bool, not, ◌&&◌, ◌||◌, nat_le, List, codes, Option, is_some}
use Rattle.std.specs.List.{list_all}
use Rattle.relay_http_head.specs.Head.{Fields, has_field, only_value, kept}

-- a printable ASCII character
abbrev pub is_origin_byte : ℕ → Bool
is_origin_byte b = nat_le 32 b && nat_le b 126

-- the origin that a head names: the value of its only field `Origin`, if it is printable ASCII
abbrev pub origin_of : Fields → Option (List ℕ)
origin_of fields = kept (list_all is_origin_byte) (only_value (codes "Origin") fields)

-- No field `Origin`, or an origin. Two fields name none, and must not pass as if there were none.
abbrev pub at_most_one_origin : Fields → Bool
at_most_one_origin fields = not (has_field (codes "Origin") fields) || is_some (origin_of fields)

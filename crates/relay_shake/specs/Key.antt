-- The key of a handshake (RFC 6455, section 4.1).
use Rattle.std.specs.Prelude.{ℕ, Bool, ◌==◌, ◌&&◌, ◌||◌, List, take, drop, codes, bytes_eq, Option}
use Rattle.std.specs.List.{list_all}
use Rattle.std.specs.Char.{is_ascii_alphanumeric}
use Rattle.relay_http_head.specs.Head.{Fields, only_value, kept}

-- a letter, a digit, `+` or `/` (RFC 4648, section 4)
abbrev pub is_base64_byte : ℕ → Bool
is_base64_byte b = is_ascii_alphanumeric b || b == 43 || b == 47

-- 16 bytes in base64: 22 characters, and then `==`
abbrev pub is_key : List ℕ → Bool
is_key value = list_all is_base64_byte (take 22 value) && bytes_eq (drop 22 value) (codes "==")

-- the key of a head: the value of its only key field, if it has the form of a key
abbrev pub key_of : Fields → Option (List ℕ)
key_of fields = kept is_key (only_value (codes "Sec-WebSocket-Key") fields)

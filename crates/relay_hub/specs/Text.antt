-- The bytes of a text.

use Rattle.std.specs.Prelude.{ℕ, List, string_bytes}
use Rattle.relay_hub.specs.declared.text.Held.{Held}
use Rattle.relay_hub.specs.declared.text.Held.TheVariants.{Own, Shared}

abbrev pub bytes_of : Held → List ℕ
bytes_of (Own value) = string_bytes value
bytes_of (Shared words) = words

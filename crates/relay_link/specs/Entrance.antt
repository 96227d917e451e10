-- In which rooms clients may enter.
use Rattle.std.specs.Prelude.{ℕ, ◌==◌, ◌&&◌, nat_le, not, length, Bool, true, false, List}
use Rattle.std.specs.Prelude.{bytes_eq, string_bytes}
use Rattle.std.specs.List.{list_any}
use Rattle.relay_link.specs.declared.entrance.Entrance.{Entrance}
use Rattle.relay_link.specs.declared.entrance.Entrance.TheVariants.{Open, Only}

-- whether clients may enter the room of a name
abbrev pub lets_in : Entrance → List ℕ → Bool
lets_in Open room = true
lets_in (Only names) room = list_any (λ name. bytes_eq room (string_bytes name)) names.keys

-- whether they may enter none
abbrev pub is_closed : Entrance → Bool
is_closed Open = false
is_closed (Only names) = length names.keys == 0

-- whether there is no place for one more: so many names are there, and this one is not among them
abbrev pub is_full : Entrance → List ℕ → ℕ → Bool
is_full Open room most = false
is_full (Only names) room most =
    not (lets_in (Only names) room) && nat_le most (length names.keys)

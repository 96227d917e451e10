-- A list with an entry for each room, by the room's index.
use Rattle.std.specs.Prelude.{ℕ, ◌+◌, ◌-◌, List, ◌++◌, length, replicate}

-- the list with entries up to this index; those that are new hold the same
abbrev pub admitting : {X : Type 0} → ℕ → X → List X → List X
admitting index fresh rooms = rooms ++ replicate (index + 1 - length rooms) fresh

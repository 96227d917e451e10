-- Members that are counts and may be missing.
use Rattle.std.specs.Prelude.{ℕ, List, Option, Some, None, option_map}
use Rattle.relay_tree.specs.Document.{Document}
use Rattle.relay_tree.specs.Count.{count_of}
use Rattle.relay_tree.specs.Part.{object_member}

-- a missing member is Some None; one that is there has to be a count
abbrev pub optional_count : Option Document → Option (Option ℕ)
optional_count None = Some None
optional_count (Some d) = option_map Some (count_of d)

-- the member of that name as a count, if it is there
abbrev pub optional_count_in : Document → List ℕ → Option (Option ℕ)
optional_count_in d name = optional_count (object_member d name)

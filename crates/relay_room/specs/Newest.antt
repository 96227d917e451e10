-- The changes of the newest revision.
use Rattle.std.specs.Prelude.{List, [], ◌∷◌}
use Rattle.relay_patch.specs.declared.change.Change.{Change}
use Rattle.relay_history.specs.History.{Past}

-- the changes of the first revision of a list, newest first; none if the list is empty
abbrev pub newest_of : List (List Change) → List Change
newest_of [] = []
newest_of (changes ∷ older) = changes

-- the changes of the newest revision; none if they are not held
abbrev pub newest_changes : Past → List Change
newest_changes past = newest_of past.changes

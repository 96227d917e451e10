-- Counts: the whole numbers from 0 to 2^53 - 1.
use Rattle.std.specs.Prelude.{ℕ, pos, Bool, List, Option, Some, None, option_and_then, nat_le}
use Rattle.std.specs.Prelude.{if◌then◌else◌}
use Rattle.relay_tree.specs.Document.{Document, whole}
use Rattle.relay_tree.specs.Part.{object_member}
use Rattle.relay_limits.specs.declared.TheConstants.{MAX_COUNT}

abbrev pub count_most : ℕ
count_most = MAX_COUNT

abbrev pub is_count : ℕ → Bool
is_count n = nat_le n count_most

-- the document as a count; `None` if it is not a count
abbrev pub count_of : Document → Option ℕ
count_of (whole (pos n)) = if is_count n then Some n else None
count_of _ = None

-- the named member as a count; `None` if there is no such member or it is not a count
abbrev pub count_in : Document → List ℕ → Option ℕ
count_in d name = option_and_then count_of (object_member d name)

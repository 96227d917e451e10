-- Members as their names and values, in the byte order of the names.
use Rattle.std.specs.Prelude.{ℕ, ◌+◌, ◌/◌, List, Option, String, string_bytes, string_cmp, length}
use Rattle.std.specs.Prelude.{nat_lt, if◌then◌else◌}
use Rattle.std.specs.List.Sorted.{IsStrictlySortedBy}
use Rattle.std.specs.Map.{keys_of, lookup, set_value}
use Rattle.std.specs.BTreeMap.{is_at, insert_entry}
use Rattle.std.specs.Cmp.Lexicographic.{slice_cmp}
use Rattle.std.specs.Ordering.{nat_cmp}
use Rattle.std.specs.declared.cmp.Ordering.{Ordering}
pub use Rattle.std_collections.specs.Layout.Columns.{Rows, with_rows}
use Rattle.std.specs.declared.alloc.Global.{Global}

-- a name, as its bytes, compared with that of a member
abbrev pub compared : List ℕ → String Global → Ordering
compared name key = slice_cmp nat_cmp name (string_bytes key)

-- a member's name compared with a name
abbrev pub order_to : {V : Type 0} → List ℕ → String Global × V → Ordering
order_to name entry = slice_cmp nat_cmp (string_bytes entry.0) name

-- the names ascend, so each stands once
abbrev pub IsAscending : {V : Type 0} → List (String Global × V) → Type 0
IsAscending entries = IsStrictlySortedBy string_cmp (keys_of entries)

-- the value under a name; `None` if there is none
abbrev pub value_at : {V : Type 0} → List (String Global × V) → List ℕ → Option V
value_at entries name = lookup (is_at (compared name)) entries

-- the members with another value under a name; unchanged if there is none
abbrev pub with_value : {V : Type 0} → Rows (String Global) V → List ℕ → V → Rows (String Global) V
with_value members name value =
    with_rows members (set_value (is_at (compared name)) members.entries value)

-- the members with a value under a name, if `capacity` has place for one more; otherwise unchanged
abbrev pub refilled_entries : {V : Type 0} → ℕ → String Global → V → List (String Global × V)
    → List (String Global × V)
refilled_entries capacity name value es =
    if nat_lt (length es) capacity then insert_entry string_cmp es name value else es

-- the capacity with place for one more than `len` members: the present one if it suffices, else a
-- quarter above `len`, and one
abbrev pub grown_capacity : ℕ → ℕ → ℕ
grown_capacity len capacity = if nat_lt len capacity then capacity else len + (len / 4 + 1)

-- Header fields by name (RFC 9110, sections 5.1 and 5.6.1).
use Rattle.std.specs.Prelude.{ℕ, Bool, not, ◌==◌, ◌&&◌, if◌then◌else◌, List, [], ◌∷◌, count_by}
use Rattle.std.specs.Prelude.{Option, Some, None}
use Rattle.std.specs.List.{list_any, slice_split}
use Rattle.std.specs.Str.{str_eq_ignore_ascii_case}
use Rattle.httparse.specs.Grammar.{trim_ows}

-- the name and the value of each header field, in order; a value has no space or tab at its ends
abbrev pub Fields : Type 0
Fields = List (List ℕ × List ℕ)

-- the number of fields with the name
abbrev pub count_of : List ℕ → Fields → ℕ
count_of name fields = count_by (λ field. str_eq_ignore_ascii_case field.0 name) fields

-- the value of the first field with the name
abbrev pub first_value : List ℕ → Fields → Option (List ℕ)
first_value name [] = None
first_value name (field ∷ fields) =
    if str_eq_ignore_ascii_case field.0 name then Some field.1 else first_value name fields

-- the value of the field with the name, if there is exactly one
abbrev pub only_value : List ℕ → Fields → Option (List ℕ)
only_value name fields = if count_of name fields == 1 then first_value name fields else None

-- a field with the name is there
abbrev pub has_field : List ℕ → Fields → Bool
has_field name fields = not (count_of name fields == 0)

-- the value if it passes the test, else None
abbrev pub kept : (List ℕ → Bool) → Option (List ℕ) → Option (List ℕ)
kept test None = None
kept test (Some value) = if test value then Some value else None

-- a comma-separated part of the value is the element, ignoring case and spaces and tabs at the ends
-- of the part
abbrev pub lists : List ℕ → List ℕ → Bool
lists element value =
    list_any (λ part. str_eq_ignore_ascii_case (trim_ows part) element) (slice_split (λ b.
    b == 44) value)

-- a field with the name lists the element
abbrev pub has_element : List ℕ → List ℕ → Fields → Bool
has_element name element fields =
    list_any (λ field. str_eq_ignore_ascii_case field.0 name && lists element field.1) fields

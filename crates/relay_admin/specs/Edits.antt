-- The edits of a room that are accepted: the fields that a PATCH must have (RFC 5789; RFC 9110,
-- sections 8.3, 8.6 and 10.1.1; RFC 9112, section 6).
use Rattle.std.specs.Prelude.{ℕ, Bool, true, not, ◌+◌, ◌-◌, ◌*◌, ◌==◌, ◌&&◌, ◌||◌, nat_lt, nat_le}
use Rattle.std.specs.Prelude.{if◌then◌else◌, List, [], ◌∷◌, length, take, drop, codes, Option, Some}
use Rattle.std.specs.Prelude.{None, is_some, is_none, option_and_then, Result, Ok, Err}
use Rattle.std.specs.Char.{is_ascii_digit}
use Rattle.std.specs.List.{list_all}
use Rattle.std.specs.Str.{str_eq_ignore_ascii_case}
use Rattle.relay_http_head.specs.Checks.{first_failed}
use Rattle.relay_http_head.specs.Head.{Fields, only_value, has_field, kept}
use Rattle.relay_admin.specs.Query.{query_of}
use Rattle.relay_admin.specs.declared.admin_fault.AdminFault.{AdminFault}
use Rattle.relay_admin.specs.declared.admin_fault.AdminFault.TheVariants.{NoPath, Expectation}
use Rattle.relay_admin.specs.declared.admin_fault.AdminFault.TheVariants.{MediaType, NoLength}
use Rattle.relay_admin.specs.declared.admin_fault.AdminFault.TheVariants.{BadLength, BodyTooLong}
use Rattle.relay_admin.specs.declared.room.edit.TheConstants.{MAX_BODY}

-- what may stand behind a media type: nothing, or parameters behind a `;`
abbrev pub is_parameters : List ℕ → Bool
is_parameters [] = true
is_parameters (b ∷ rest) = (b == 59) || (((b == 32) || (b == 9)) && is_parameters rest)

-- the media type of a JSON Patch, in any case, alone or with parameters
abbrev pub patch_type : List ℕ
patch_type = codes "application/json-patch+json"

abbrev pub is_json_patch : List ℕ → Bool
is_json_patch value =
    nat_le (length patch_type) (length value)
    && str_eq_ignore_ascii_case (take (length patch_type) value) patch_type
    && is_parameters (drop (length patch_type) value)

-- the number that decimal digits write behind those of another
abbrev pub number_after : ℕ → List ℕ → ℕ
number_after n [] = n
number_after n (digit ∷ digits) = number_after (n * 10 + (digit - 48)) digits

-- a decimal number: one digit or more, and nothing else
abbrev pub number_of : List ℕ → Option ℕ
number_of text =
    if nat_lt 0 (length text) && list_all is_ascii_digit text then Some (number_after 0 text)
    else None

-- the length of the body
abbrev pub length_of : Fields → Option ℕ
length_of fields = option_and_then number_of (only_value (codes "Content-Length") fields)

-- whether a length is short enough
abbrev pub is_short : Option ℕ → Bool
is_short None = true
is_short (Some length) = nat_le length MAX_BODY

-- the checks of the length in their order: the condition, and the refusal if it fails
abbrev pub length_checks : Fields → List (Bool × AdminFault)
length_checks fields = (
  not (has_field (codes "Transfer-Encoding") fields) && has_field (codes "Content-Length") fields,
  NoLength,
)
    ∷ (is_some (length_of fields), BadLength)
    ∷ (is_short (length_of fields), BodyTooLong)
    ∷ []

-- the length if no check failed
abbrev pub length_by : Option AdminFault → Option ℕ → Result ℕ AdminFault
length_by (Some refusal) length = Err refusal
length_by None (Some length) = Ok length
length_by None None = Err BadLength

abbrev pub length_asked : Fields → Result ℕ AdminFault
length_asked fields = length_by (first_failed (length_checks fields)) (length_of fields)

-- the checks before
abbrev pub edit_checks : List ℕ → Fields → List (Bool × AdminFault)
edit_checks name fields =
    (is_none (query_of name), NoPath)
    ∷ (not (has_field (codes "Expect") fields), Expectation)
    ∷ (is_some (kept is_json_patch (only_value (codes "Content-Type") fields)), MediaType)
    ∷ []

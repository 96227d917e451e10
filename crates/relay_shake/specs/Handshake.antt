-- The verdict on a head (RFC 6455, section 4.2.1).
use Rattle.std.specs.Prelude.{ℕ, Bool, not, ◌==◌, nat_lt, nat_le, if◌then◌else◌, List, [], ◌∷◌}
use Rattle.std.specs.Prelude.{length, take, codes, bytes_eq, Option, Some, None, is_some, unwrap_or}
use Rattle.httparse.specs.Grammar.{RequestHead}
use Rattle.relay_access.specs.declared.access.Access.{Access}
use Rattle.relay_access.specs.declared.access.Access.TheVariants.{ReadOnly}
use Rattle.relay_shake.specs.declared.reading.TheConstants.{MAX_HEAD}
use Rattle.relay_shake.specs.declared.checks.TheConstants.{MAX_FIELDS}
use Rattle.relay_http_head.specs.Checks.{first_failed}
use Rattle.relay_http_head.specs.Head.{only_value, kept, has_element}
use Rattle.relay_http_head.specs.Parsing.{Parts, parts_of}
use Rattle.relay_shake.specs.Key.{key_of}
use Rattle.relay_shake.specs.Origin.{at_most_one_origin, origin_of}
use Rattle.relay_shake.specs.Route.{asked_of}

-- the checks in their order: the condition, and the status if it fails
abbrev pub checks : Parts → List (Bool × ℕ)
checks head =
    (nat_le (length head.fields) MAX_FIELDS, 431)
    ∷ (bytes_eq head.method (codes "GET"), 405)
    ∷ (is_some (asked_of head.target), 404)
    ∷ (head.minor == 1, 400)
    ∷ (is_some (only_value (codes "Host") head.fields), 400)
    ∷ (at_most_one_origin head.fields, 400)
    ∷ (has_element (codes "Upgrade") (codes "websocket") head.fields, 400)
    ∷ (has_element (codes "Connection") (codes "Upgrade") head.fields, 400)
    ∷ (is_some (only_value (codes "Sec-WebSocket-Version") head.fields), 400)
    ∷ (
      is_some (kept (bytes_eq (codes "13"))
          (only_value (codes "Sec-WebSocket-Version") head.fields)),
      426,
    )
    ∷ (is_some (key_of head.fields), 400)
    ∷ (not head.has_surplus, 400)
    ∷ []

-- wait for more bytes, accept a room, the access to it, the origin, if one is named, and a key, or
-- refuse with a status
pub data Verdict : Type 0 where
  wait : Verdict
  accept : List ℕ → Access → Option (List ℕ) → List ℕ → Verdict
  refuse : ℕ → Verdict

-- accept what is asked for, the origin and the key if no check failed, else refuse with the status
-- of the first that did
abbrev pub verdict_by : Option ℕ → Option (List ℕ × Access) → Option (List ℕ) → Option (List ℕ)
    → Verdict
verdict_by None asked origin key =
    let (room, access) = unwrap_or asked ([], ReadOnly) in
    accept room access origin (unwrap_or key [])
verdict_by (Some status) asked origin key = refuse status

-- the verdict on the parts of a head
abbrev pub verdict_on : Parts → Verdict
verdict_on head =
    verdict_by (first_failed (checks head)) (asked_of head.target) (origin_of head.fields)
    (key_of head.fields)

-- the verdict on a head that is followed by the surplus bytes
abbrev pub verdict_of : RequestHead → List ℕ → Verdict
verdict_of head surplus = verdict_on (parts_of head surplus)

-- the bytes in which the head must be
abbrev pub window : List ℕ → List ℕ
window bytes = take MAX_HEAD bytes

-- the verdict on bytes that can still become a head: wait, unless there are more than MAX_HEAD
abbrev pub verdict_before_head : List ℕ → Verdict
verdict_before_head bytes = if nat_lt MAX_HEAD (length bytes) then refuse 431 else wait

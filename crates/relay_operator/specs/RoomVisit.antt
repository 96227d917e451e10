-- The visit that a head asks for.
use Rattle.std.specs.Prelude.{◌≡◌, ℕ, List, None, length, take, drop, string_bytes}
use Rattle.httparse.specs.Grammar.{RequestHead, print_request}
use Rattle.json.specs.Lex.{tokens}
use Rattle.relay_access.specs.declared.access.Access.TheVariants.{ReadOnly, ReadWrite}
use Rattle.relay_admin.specs.Admitted.{IsAdmitted}
use Rattle.relay_admin.specs.Asking.{edit_tokens, watch_tokens}
use Rattle.relay_admin.specs.Route.{Asked, edit, part}
use Rattle.relay_operator.specs.declared.room_request.RoomVisit.{RoomVisit}

-- A visit is what is asked. That of a part only watches that part of that room; that of an edit may
-- edit that room, and does so by the body, which is first among the bytes behind the head.
abbrev pub IsVisitFor : Asked → List ℕ → RoomVisit → Type 0
IsVisitFor (part name at tags) behind visit =
    (string_bytes visit.room ≡ name) × (visit.access ≡ ReadOnly)
    × (tokens visit.text ≡ watch_tokens at)
IsVisitFor (edit name tags size) behind visit =
    (string_bytes visit.room ≡ name) × (visit.access ≡ ReadWrite)
    × (tokens visit.text ≡ edit_tokens None (tokens (take size behind)))
IsVisitFor asked behind visit = ⊥

-- a head with which bytes begin is admitted as the request for a visit
abbrev pub AsksVisit : RoomVisit → List ℕ → RequestHead → Type 0
AsksVisit visit bytes head =
    (asked : Asked) × IsAdmitted head asked
    × IsVisitFor asked (drop (length (print_request head)) bytes) visit

-- The verdict on a head.
use Rattle.std.specs.Prelude.{ℕ, Bool, true, not, nat_le, nat_lt, if◌then◌else◌, List, [], ◌∷◌}
use Rattle.std.specs.Prelude.{length, take, codes, bytes_eq, Option, Some, None, is_some, Result}
use Rattle.std.specs.Prelude.{Ok, Err}
use Rattle.httparse.specs.Grammar.{RequestHead}
use Rattle.relay_http_head.specs.Checks.{first_failed}
use Rattle.relay_http_head.specs.Head.{Fields, only_value, has_field, kept}
use Rattle.relay_http_head.specs.Parsing.{Parts, parts_of}
use Rattle.relay_admin.specs.Conditions.{listed}
use Rattle.relay_admin.specs.Edits.{edit_checks, length_asked}
use Rattle.relay_admin.specs.Host.{is_loopback}
use Rattle.relay_admin.specs.Query.{path_of, query_of, pointer_in}
use Rattle.relay_admin.specs.Route.{Place, at_path, at_room, at_door, place_at, takes, Asked}
use Rattle.relay_admin.specs.Route.{request, forget, part, edit, admit, exclude}
use Rattle.relay_admin.specs.declared.checks.TheConstants.{MAX_FIELDS}
use Rattle.relay_admin.specs.declared.reading.TheConstants.{MAX_HEAD}
use Rattle.relay_admin.specs.declared.admin_fault.AdminFault.{AdminFault}
use Rattle.relay_admin.specs.declared.admin_fault.AdminFault.TheVariants.{TooLong, NoHost}
use Rattle.relay_admin.specs.declared.admin_fault.AdminFault.TheVariants.{OtherHost, Origin, NoPath}
use Rattle.relay_admin.specs.declared.admin_fault.AdminFault.TheVariants.{OnlyGet, OnlyPost}
use Rattle.relay_admin.specs.declared.admin_fault.AdminFault.TheVariants.{OnlyRoomMethods}
use Rattle.relay_admin.specs.declared.admin_fault.AdminFault.TheVariants.{OnlyDoorMethods, BadQuery}
use Rattle.relay_admin.specs.declared.request.AdminRequest.TheVariants.{Open, Stop}

-- wait for more bytes, accept what is asked, or refuse
pub data Verdict : Type 0 where
  more : Verdict
  accept : Asked → Verdict
  refuse : AdminFault → Verdict

-- what is asked, or why not
abbrev pub Judged : Type 0
Judged = Result Asked AdminFault

-- whether a method is taken at a place, if there is one
abbrev pub has_method : List ℕ → Option Place → Bool
has_method method (Some place) = takes method place
has_method method None = true

-- the refusal of a method that a place does not take
abbrev pub wrong_method : Option Place → AdminFault
wrong_method (Some (at_path Open)) = OnlyPost
wrong_method (Some (at_path Stop)) = OnlyPost
wrong_method (Some (at_room name)) = OnlyRoomMethods
wrong_method (Some (at_door name)) = OnlyDoorMethods
wrong_method _ = OnlyGet

-- the checks of every head in their order: the condition, and the refusal if it fails
abbrev pub checks : Parts → List (Bool × AdminFault)
checks head =
    (nat_le (length head.fields) MAX_FIELDS, TooLong)
    ∷ (is_some (only_value (codes "Host") head.fields), NoHost)
    ∷ (is_some (kept is_loopback (only_value (codes "Host") head.fields)), OtherHost)
    ∷ (not (has_field (codes "Origin") head.fields), Origin)
    ∷ (is_some (place_at head.target), NoPath)
    ∷ (has_method head.method (place_at head.target), wrong_method (place_at head.target))
    ∷ []

-- the place that a head asks at, if no check failed
abbrev pub placed_by : Option AdminFault → Option Place → Result Place AdminFault
placed_by (Some refusal) place = Err refusal
placed_by None (Some place) = Ok place
placed_by None None = Err NoPath

abbrev pub placed : Parts → Result Place AdminFault
placed head = placed_by (first_failed (checks head)) (place_at head.target)

-- what a GET asks of a room
abbrev pub part_by : Option (List ℕ) → List ℕ → Fields → Judged
part_by None name fields = Err BadQuery
part_by (Some at) name fields = Ok (part (path_of name) at (listed (codes "If-None-Match") fields))

abbrev pub part_asked : List ℕ → Fields → Judged
part_asked name fields = part_by (pointer_in (query_of name)) name fields

-- what a PATCH asks of a room
abbrev pub edit_by : Option AdminFault → Result ℕ AdminFault → List ℕ → Fields → Judged
edit_by (Some refusal) length name fields = Err refusal
edit_by None (Err refusal) name fields = Err refusal
edit_by None (Ok length) name fields = Ok (edit name (listed (codes "If-Match") fields) length)

abbrev pub edit_asked : List ℕ → Fields → Judged
edit_asked name fields =
    edit_by (first_failed (edit_checks name fields)) (length_asked fields) name fields

-- what is asked of a room, by one of its methods
abbrev pub room_asked : List ℕ → List ℕ → Fields → Judged
room_asked name method fields =
    if bytes_eq method (codes "GET") then part_asked name fields else
    if bytes_eq method (codes "PATCH") then edit_asked name fields else Ok (forget name)

-- what is asked of the door of a room, by one of its methods
abbrev pub door_asked : List ℕ → List ℕ → Asked
door_asked name method =
    if bytes_eq method (codes "PUT") then admit name else exclude name

-- what a head asks at a place
abbrev pub asked_at : Result Place AdminFault → List ℕ → Fields → Judged
asked_at (Err refusal) method fields = Err refusal
asked_at (Ok (at_path r)) method fields = Ok (request r)
asked_at (Ok (at_room name)) method fields = room_asked name method fields
asked_at (Ok (at_door name)) method fields = Ok (door_asked name method)

abbrev pub asked_by : Parts → Judged
asked_by head = asked_at (placed head) head.method head.fields

abbrev pub verdict_by : Judged → Verdict
verdict_by (Ok asked) = accept asked
verdict_by (Err refusal) = refuse refusal

abbrev pub verdict_on : Parts → Verdict
verdict_on head = verdict_by (asked_by head)

-- the verdict on a head, whatever follows it
abbrev pub verdict_of : RequestHead → Verdict
verdict_of head = verdict_on (parts_of head [])

-- the bytes in which the head must be
abbrev pub window : List ℕ → List ℕ
window bytes = take MAX_HEAD bytes

-- the verdict on bytes that can still become a head
abbrev pub verdict_before_head : List ℕ → Verdict
verdict_before_head bytes = if nat_lt MAX_HEAD (length bytes) then refuse TooLong else more

-- The request that is made of a room.
use Rattle.std.specs.Prelude.{Bool, true, false, if◌then◌else◌, string_bytes, Result, Ok, Err}
use Rattle.std.specs.Prelude.{Option, Some, None}
use Rattle.relay_admin.specs.declared.answer.Ask.{Ask}
use Rattle.relay_admin.specs.declared.answer.Ask.TheVariants as ask
use Rattle.relay_access.specs.RoomName.{is_room_name}
use Rattle.relay_operator.specs.declared.room_request.Kind.{Kind}
use Rattle.relay_operator.specs.declared.room_request.Kind.TheVariants.{Admission, Forgetting}
use Rattle.relay_operator.specs.declared.room_request.Kind.TheVariants.{Visit}
use Rattle.relay_operator.specs.declared.room_request.RoomRequest.{RoomRequest}
use Rattle.relay_operator.specs.declared.room_request.RoomRequest.TheVariants as room

-- what an answer asks of a room; or the answer, if it asks nothing, or that clients may enter a
-- room of a name that none can have
abbrev pub asked_of_room : Ask → Result RoomRequest Ask
asked_of_room (ask.Admit name) =
    if is_room_name (string_bytes name) then Ok (room.Open name) else Err (ask.Admit name)
asked_of_room (ask.Exclude name) = Ok (room.Close name)
asked_of_room (ask.Forget name) = Ok (room.Forget name)
asked_of_room (ask.Read part) = Ok (room.Read part)
asked_of_room (ask.Edit edit) = Ok (room.Edit edit)
asked_of_room answer = Err answer

-- whether a request is of a kind
abbrev pub is_of : Kind → RoomRequest → Bool
is_of Admission (room.Open name) = true
is_of Admission (room.Close name) = true
is_of Forgetting (room.Forget name) = true
is_of Visit (room.Read part) = true
is_of Visit (room.Edit edit) = true
is_of kind request = false

-- whether there is a request, and it is of that kind
abbrev pub is_some_of : Kind → Option RoomRequest → Bool
is_some_of kind (Some request) = is_of kind request
is_some_of kind None = false

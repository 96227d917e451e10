-- The bytes received on a connection, and what they ask of a room.
use Rattle.std.specs.Prelude.{◌≡◌, ⊤, ℕ, ◌+◌, ◌-◌, ◌^◌, min, nat_lt, if◌then◌else◌, List, [], ◌++◌}
use Rattle.std.specs.Prelude.{length, take, drop, string_bytes, Option, Some, None, Result, Ok, Err}
use Rattle.httparse.specs.Grammar.{RequestHead, ReadsRequest, HasNoRequest, print_request}
use Rattle.relay_admin.specs.Admitted.{AdmitsExactly, IsAdmitted}
use Rattle.relay_admin.specs.Asked.{AnswersHead, AnswersNoHead, FollowsHead}
use Rattle.relay_admin.specs.Judged.{edit_of, part_of}
use Rattle.relay_admin.specs.Route.{Asked, admit, exclude, forget}
use Rattle.relay_admin.specs.Verdict.{window}
use Rattle.relay_admin.specs.declared.answer.Ask.{Ask}
use Rattle.relay_admin.specs.declared.room.edit.EditRequest.{EditRequest}
use Rattle.relay_operator.specs.RoomRequest.{asked_of_room}
use Rattle.relay_operator.specs.declared.room_request.RoomRequest.{RoomRequest}
use Rattle.relay_operator.specs.declared.room_request.RoomRequest.TheVariants as room

-- what was received, and what that asks of a room, as long as there is no response
pub record Request : Type 0 where
  pub bytes : List ℕ
  pub asked : Option RoomRequest

-- nothing was received
abbrev pub unread : Request
unread = record { bytes = []; asked = None }

-- more was received
abbrev pub with_bytes : List ℕ → Request → Request
with_bytes more r = record { bytes = r.bytes ++ more; asked = r.asked }

-- it asks this of a room
abbrev pub asking : RoomRequest → Request → Request
asking request r = record { bytes = r.bytes; asked = Some request }

-- it asks nothing any more
abbrev pub served : Request → Request
served r = record { bytes = r.bytes; asked = None }

-- ---- what bytes say

-- the answer to bytes, by the definitions of `relay_admin`
pub record Answers (bytes : List ℕ) (answer : Ask) : Type 0 where
  pub admits : AdmitsExactly bytes answer
  pub head : AnswersHead bytes answer
  pub no_head : AnswersNoHead bytes answer
  pub body : FollowsHead bytes answer

-- bytes begin with a head, of which this holds
pub record BeginsWith (Says : RequestHead → Type 0) (bytes : List ℕ) : Type 0 where
  pub has_head : HasNoRequest (window bytes) → ⊥
  pub says : (head : RequestHead) (rest : List ℕ) → ReadsRequest (window bytes) head rest
      → Says head

-- a request for a room, as `relay_admin` says what is asked
abbrev pub asked_in : RoomRequest → Asked
asked_in (room.Open name) = admit (string_bytes name)
asked_in (room.Close name) = exclude (string_bytes name)
asked_in (room.Forget name) = forget (string_bytes name)
asked_in (room.Read part) = part_of part
asked_in (room.Edit edit) = edit_of edit

-- the body of an edit begins at this index
abbrev pub HasBodyAt : ℕ → RoomRequest → Type 0
HasBodyAt index (room.Edit edit) = edit.head ≡ index
HasBodyAt index request = ⊤

-- a head makes a request for a room: it is admitted as that request, and a body follows it
abbrev pub Makes : RoomRequest → RequestHead → Type 0
Makes request head =
    IsAdmitted head (asked_in request) × HasBodyAt (length (print_request head)) request

-- what is asked of a room is what the bytes say
abbrev pub IsSaid : Option RoomRequest → List ℕ → Type 0
IsSaid (Some request) bytes = BeginsWith (Makes request) bytes
IsSaid None bytes = ⊤

-- Bytes are answered: what they ask of a room is noted. Any other answer is given back.
abbrev pub NotesAsked : Result RoomRequest Ask → Option Ask → Request → Request → Type 0
NotesAsked (Ok request) None old new = new ≡ asking request old
NotesAsked (Err answer) (Some given) old new = (given ≡ answer) × (new ≡ old)
NotesAsked asked given old new = ⊥

pub record Notes (given : Option Ask) (old new : Request) : Type 0 where
  pub answer : Ask
  pub answers : Answers old.bytes answer
  pub notes : NotesAsked (asked_of_room answer) given old new

-- ---- the body of an edit

-- where the body of an edit ends among the bytes of its request
abbrev pub body_end : EditRequest → ℕ
body_end edit = min (edit.head + edit.length) (2 ^ 64 - 1)

-- how many bytes of the body are still to be received
abbrev pub missing_of : EditRequest → List ℕ → ℕ
missing_of edit bytes = body_end edit - length bytes

-- the body, as far as it was received
abbrev pub body_of : EditRequest → List ℕ → List ℕ
body_of edit bytes = take edit.length (drop edit.head bytes)

-- what is asked of a room, once the whole request was received
abbrev pub whole : RoomRequest → List ℕ → Option RoomRequest
whole (room.Edit edit) bytes =
    if nat_lt 0 (missing_of edit bytes) then None else Some (room.Edit edit)
whole request bytes = Some request

abbrev pub whole_by : Option RoomRequest → List ℕ → Option RoomRequest
whole_by (Some request) bytes = whole request bytes
whole_by None bytes = None

abbrev pub asked_by : Request → Option RoomRequest
asked_by r = whole_by r.asked r.bytes

-- how much of the body is still to be received that it asks for
abbrev pub missing_in : RoomRequest → List ℕ → Option ℕ
missing_in (room.Edit edit) bytes = Some (missing_of edit bytes)
missing_in request bytes = None

abbrev pub missing_by : Option RoomRequest → List ℕ → Option ℕ
missing_by (Some request) bytes = missing_in request bytes
missing_by None bytes = None

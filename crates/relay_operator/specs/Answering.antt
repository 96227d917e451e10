-- The responses to what is asked of rooms: which connection gets one, and which one it is.
use Rattle.std.specs.Prelude.{◌≡◌, ◌⊎◌, ℕ, ◌+◌, List, Option, Some, None, option_and_then, position}
use Rattle.std.specs.Prelude.{slice_get, slice_set, string_bytes, Result, Ok, Err, IfOk}
use Rattle.std.specs.List.{remove}
use Rattle.std.specs.declared.alloc.AllocError.{AllocError}
use Rattle.std.specs.declared.alloc.Global.{Global}
use Rattle.std.specs.declared.string.String.{String}
use Rattle.relay_admin.specs.Responses.{response_text}
use Rattle.relay_hub.specs.State.{State}
use Rattle.relay_hub.specs.declared.fault.ForgetFault.{ForgetFault}
use Rattle.relay_link.specs.declared.entrance_fault.EntranceFault.{EntranceFault}
use Rattle.relay_link.specs.declared.visit.Visit.{Visit}
use Rattle.relay_operator.specs.Admission.{admission_response}
use Rattle.relay_operator.specs.Connection.{Tells, answered, asks_for}
use Rattle.relay_operator.specs.Port.{AsksRoomAt}
use Rattle.relay_operator.specs.Request.{asked_by, body_of}
use Rattle.relay_operator.specs.Visiting.{IsVisitResponse, PreparesEdit, PreparesRead}
use Rattle.relay_operator.specs.Visiting.{forgotten_response}
use Rattle.relay_operator.specs.declared.admin_connection.AdminConnection.{AdminConnection}
use Rattle.relay_operator.specs.declared.admin_port.TheConstants.{MAX_CONNECTIONS}
use Rattle.relay_operator.specs.declared.admission.Admission.{Admission}
use Rattle.relay_operator.specs.declared.admission.Admission.TheVariants as admission
use Rattle.relay_operator.specs.declared.room_request.Kind.{Kind}
use Rattle.relay_operator.specs.declared.room_request.Kind.TheVariants as kind
use Rattle.relay_operator.specs.declared.room_request.Prepared.{Prepared}
use Rattle.relay_operator.specs.declared.room_request.Prepared.TheVariants as prepared
use Rattle.relay_operator.specs.declared.room_request.RoomRequest.{RoomRequest}
use Rattle.relay_operator.specs.declared.room_request.RoomRequest.TheVariants as room
use Rattle.relay_operator.specs.declared.room_request.RoomVisit.{RoomVisit}

-- a request is one for the way into a room
abbrev pub AdmissionOf : RoomRequest → Admission → Type 0
AdmissionOf (room.Open name) (admission.Open given) = string_bytes name ≡ given.now
AdmissionOf (room.Close name) (admission.Close given) = string_bytes name ≡ given.now
AdmissionOf request asked = ⊥

-- a request is one that the room of a name is forgotten
abbrev pub ForgetsRoom : RoomRequest → List ℕ → Type 0
ForgetsRoom (room.Forget name) given = string_bytes name ≡ given
ForgetsRoom request given = ⊥

-- the response to a request, by what came of it
abbrev pub SaysAdmitted : Option RoomRequest → Result (Unit {0}) EntranceFault → List ℕ → Type 0
SaysAdmitted (Some request) came text =
    (asked : Admission) × AdmissionOf request asked
    × (text ≡ response_text (admission_response asked came))
SaysAdmitted None came text = ⊥

abbrev pub SaysForgotten : Result ℕ ForgetFault → List ℕ → Type 0
SaysForgotten came text = text ≡ response_text (forgotten_response came)

abbrev pub SaysVisited : State → Option RoomRequest → Result Visit AllocError → List ℕ → Type 0
SaysVisited hub (Some request) (Ok visit) text = IsVisitResponse hub request visit text
SaysVisited hub _ _ text = ⊥

-- what a request comes to at a hub, by the bytes that were received
abbrev pub Prepares : State → List ℕ → RoomRequest → Prepared → Type 0
Prepares hub bytes (room.Read part) found = PreparesRead hub part found
Prepares hub bytes (room.Edit edit) found = PreparesEdit hub edit (body_of edit bytes) found
Prepares hub bytes request found = ⊥

module _ {S : Type 0} where
  -- the first of the connections that asks for something of a kind
  abbrev pub first_to : Kind → List (AdminConnection S) → Option ℕ
  first_to kind connections = position (asks_for kind) connections

  -- what the connection at an index asks of a room, of which all was received
  abbrev pub asked_at : ℕ → List (AdminConnection S) → Option RoomRequest
  asked_at index connections =
      option_and_then (λ c. asked_by c.request) (slice_get connections index)

  -- the request at an index is for the way into a room, and it is this one
  abbrev pub AdmitsAt : ℕ → Admission → List (AdminConnection S) → Type 0
  AdmitsAt index asked connections =
      (request : RoomRequest) × AsksRoomAt index request connections × AdmissionOf request asked

  -- the first that asks for the way into a room asks for this
  abbrev pub FirstAdmits : Admission → List (AdminConnection S) → Type 0
  FirstAdmits asked connections =
      (index : ℕ) × (first_to kind.Admission connections ≡ Some index)
      × AdmitsAt index asked connections

  -- the first that asks for a room to be forgotten names this one
  abbrev pub FirstForgets : List ℕ → List (AdminConnection S) → Type 0
  FirstForgets name connections =
      (index : ℕ) × (request : RoomRequest)
      × (first_to kind.Forgetting connections ≡ Some index)
      × AsksRoomAt index request connections × ForgetsRoom request name

  -- ---- one response

  -- A connection has the response, of which a part was sent. Or it is gone, since its stream failed
  -- or everything was sent. No other connection changed.
  abbrev pub Gives : (S → Option (List ℕ)) → ℕ → String Global → AdminConnection S
      → List (AdminConnection S) → List (AdminConnection S) → Type 0
  Gives contents index reply asker old new =
      (told : AdminConnection S) × Tells contents (answered reply asker) told
      × ((new ≡ slice_set old index told) ⊎ (new ≡ remove old index))

  abbrev pub GivesIfThere : (S → Option (List ℕ)) → ℕ → String Global → Option (AdminConnection S)
      → List (AdminConnection S) → List (AdminConnection S) → Type 0
  GivesIfThere contents index reply (Some asker) old new = Gives contents index reply asker old new
  GivesIfThere contents index reply None old new = new ≡ old

  -- The connection at an index gets this response; without memory for one it is gone.
  abbrev pub GivesAt : (S → Option (List ℕ)) → ℕ → Result (String Global) AllocError
      → List (AdminConnection S) → List (AdminConnection S) → Type 0
  GivesAt contents index (Ok reply) old new =
      GivesIfThere contents index reply (slice_get old index) old new
  GivesAt contents index (Err fault) old new = new ≡ remove old index

  -- The connection at an index gets a response whose text is as this says, or is gone without one.
  -- If there is no index, nothing changed.
  abbrev pub AnswersAt : (S → Option (List ℕ)) → Option ℕ → (ℕ → List ℕ → Type 0)
      → List (AdminConnection S) → List (AdminConnection S) → Type 0
  AnswersAt contents (Some index) Says old new =
      (reply : Result (String Global) AllocError)
      × IfOk reply (λ text. Says index (string_bytes text))
      × GivesAt contents index reply old new
  AnswersAt contents None Says old new = new ≡ old

  -- ---- which response

  -- what the request at an index comes to
  pub record PreparesAt (hub : State) (connections : List (AdminConnection S)) (index : ℕ)
      (found : Prepared) : Type 0 where
    pub request : RoomRequest
    pub asks : AsksRoomAt index request connections
    pub comes : Prepares hub asks.asker.request.bytes request found

  -- the response to the request at an index, which needs no visit
  abbrev pub SaysWithout : State → List (AdminConnection S) → ℕ → List ℕ → Type 0
  SaysWithout hub connections index text =
      (reply : String Global) × (string_bytes reply ≡ text)
      × PreparesAt hub connections index (prepared.Response reply)

  -- So many connections, one after the other, each the first that wants a visit, got their
  -- responses without one.
  pub data AnswersSome (contents : S → Option (List ℕ)) (hub : State)
      : ℕ → List (AdminConnection S) → List (AdminConnection S) → Type 0 where
    none : (held : List (AdminConnection S)) → AnswersSome contents hub 0 held held
    one : (n : ℕ) (old between new : List (AdminConnection S))
        → AnswersSome contents hub n old between
        → AnswersAt contents (first_to kind.Visit between) (SaysWithout hub between) between new
        → AnswersSome contents hub (n + 1) old new

  -- a visit is what the first request for one comes to
  abbrev pub IsNext : State → List (AdminConnection S) → RoomVisit → Type 0
  IsNext hub connections visit =
      (index : ℕ) × (first_to kind.Visit connections ≡ Some index)
      × PreparesAt hub connections index (prepared.Visit visit)

  -- If there is a next visit, it is this one. Else none is wanted any more, or as many connections
  -- as may be held got responses.
  abbrev pub IsNextIf : ℕ → State → List (AdminConnection S) → Option RoomVisit → Type 0
  IsNextIf n hub connections (Some visit) = IsNext hub connections visit
  IsNextIf n hub connections None =
      (first_to kind.Visit connections ≡ None) ⊎ (n ≡ MAX_CONNECTIONS)

  -- the connections before the next one that wants a visit got their responses, and that is the
  -- visit of the next one
  pub record FindsNext (contents : S → Option (List ℕ)) (hub : State)
      (old new : List (AdminConnection S)) (found : Option RoomVisit) : Type 0 where
    pub many : ℕ
    pub before : AnswersSome contents hub many old new
    pub next : IsNextIf many hub new found

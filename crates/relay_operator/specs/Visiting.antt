-- The answer to a request for a room: by the visit that it comes to, or without one.
use Rattle.std.specs.Prelude.{◌≡◌, ◌≢◌, ℕ, ◌+◌, ◌&&◌, Bool, true, false, not, List, [], slice_get}
use Rattle.std.specs.Prelude.{Option, Some, None, string_bytes, Result, Ok, Err}
use Rattle.json.specs.Lex.{tokens}
use Rattle.relay_admin.specs.Asking.{IsJson, watch_tokens, edit_tokens, snapshot_text}
use Rattle.relay_admin.specs.Conditions.{is_named, is_star, matches}
use Rattle.relay_admin.specs.Outcome.{outcome_of}
use Rattle.relay_admin.specs.Responses.{response_text}
use Rattle.relay_admin.specs.declared.outcome.Outcome.{Outcome}
use Rattle.relay_admin.specs.declared.outcome.Outcome.TheVariants.{Accepted, Stale, Malformed}
use Rattle.relay_admin.specs.declared.outcome.Outcome.TheVariants.{Unprocessable}
use Rattle.relay_admin.specs.declared.asking.TheConstants.{NOT_JSON}
use Rattle.relay_admin.specs.declared.not_forgotten.NotForgotten.TheVariants as kept
use Rattle.relay_admin.specs.declared.response.Response.{Response}
use Rattle.relay_admin.specs.declared.response.Response.TheVariants as response
use Rattle.relay_admin.specs.declared.room.edit.EditRequest.{EditRequest}
use Rattle.relay_admin.specs.declared.room.part.PartRequest.{PartRequest}
use Rattle.relay_admin.specs.declared.room.revision_tag.RevisionTag.{RevisionTag}
use Rattle.relay_admin.specs.declared.unavailable.Unavailable.TheVariants as unavailable
use Rattle.relay_hub.specs.State.{State, RoomSessions}
use Rattle.relay_hub.specs.Summary.{room_named}
use Rattle.relay_hub.specs.declared.fault.ForgetFault.{ForgetFault}
use Rattle.relay_hub.specs.declared.fault.ForgetFault.TheVariants as forget
use Rattle.relay_hub.specs.declared.fault.OpenFault.{OpenFault}
use Rattle.relay_hub.specs.declared.fault.OpenFault.TheVariants as opening
use Rattle.relay_link.specs.EntryRules.{is_there}
use Rattle.relay_link.specs.declared.visit.Visit.{Visit}
use Rattle.relay_link.specs.declared.visit_outcome.VisitOutcome.{VisitOutcome}
use Rattle.relay_link.specs.declared.visit_outcome.VisitOutcome.TheVariants as visit
use Rattle.relay_access.specs.declared.access.Access.TheVariants.{ReadOnly, ReadWrite}
use Rattle.relay_room.specs.Room.{revision}
use Rattle.relay_tree.specs.Document.{saturated}
use Rattle.relay_operator.specs.declared.room_request.Prepared.{Prepared}
use Rattle.relay_operator.specs.declared.room_request.Prepared.TheVariants as prepared
use Rattle.relay_operator.specs.declared.room_request.RoomRequest.{RoomRequest}
use Rattle.relay_operator.specs.declared.room_request.RoomRequest.TheVariants.{Edit}

-- the tag of a revision of the present run
abbrev pub tag_of : State → ℕ → RevisionTag
tag_of hub rev = record { epoch = hub.config.epoch; rev = rev }

-- the present revision of a room; 0 of one that is not there
abbrev pub revision_by : Option (List ℕ × RoomSessions) → ℕ
revision_by (Some room) = revision room.1.room
revision_by None = 0

abbrev pub revision_named : List ℕ → State → ℕ
revision_named name hub = revision_by (room_named name hub.rooms)

-- a request for a room gets a response without a visit
abbrev pub Responds : Response → Prepared → Type 0
Responds reply (prepared.Response text) = string_bytes text ≡ response_text reply
Responds reply (prepared.Visit visit) = ⊥

-- or a visit of that room, which only watches, and says to watch the part at a pointer
abbrev pub VisitsToRead : PartRequest → Prepared → Type 0
VisitsToRead request (prepared.Response text) = ⊥
VisitsToRead request (prepared.Visit visit) =
    (string_bytes visit.room ≡ string_bytes request.room) × (visit.access ≡ ReadOnly)
    × (tokens visit.text ≡ watch_tokens (string_bytes request.at))

-- The part of a room is read by a visit, unless the room is not there, or its present tag is among
-- those that the client has.
abbrev pub PreparesPart : Bool → RevisionTag → PartRequest → Prepared → Type 0
PreparesPart true tag request found = Responds (response.NotModified tag) found
PreparesPart false tag request found = VisitsToRead request found

abbrev pub PreparesReadBy : Option (List ℕ × RoomSessions) → State → PartRequest → Prepared
    → Type 0
PreparesReadBy None hub request found = Responds response.NoRoom found
PreparesReadBy (Some room) hub request found =
    let tag = tag_of hub (revision room.1.room)
    in PreparesPart (is_named tag request.if_none_match) tag request found

abbrev pub PreparesRead : State → PartRequest → Prepared → Type 0
PreparesRead hub request found =
    PreparesReadBy (room_named (string_bytes request.room) hub.rooms) hub request found

-- the body is no JSON, as the hub would say of a text
abbrev pub SaysNotJson : Response → Type 0
SaysNotJson (response.Malformed reply) = reply.now ≡ NOT_JSON.now
SaysNotJson reply = ⊥

-- A JSON body makes a visit of that room, which may edit, and says the edit by the patch in the
-- body. Any other makes none.
abbrev pub PreparesBody : EditRequest → List ℕ → Prepared → Type 0
PreparesBody request body (prepared.Response text) =
    (IsJson body → ⊥)
    × (reply : Response) × SaysNotJson reply × (string_bytes text ≡ response_text reply)
PreparesBody request body (prepared.Visit visit) =
    IsJson body × (string_bytes visit.room ≡ string_bytes request.room)
    × (visit.access ≡ ReadWrite) × (tokens visit.text ≡ edit_tokens None (tokens body))

-- an edit asks for a room that is there, by `*`, and there is none
abbrev pub lacks_room : State → EditRequest → Bool
lacks_room hub request = is_star request.if_match && not (is_there hub (string_bytes request.room))

-- the condition of an edit holds at its room's present tag
abbrev pub holds_at : State → EditRequest → RevisionTag → Bool
holds_at hub request tag = matches tag request.if_match && not (lacks_room hub request)

-- An edit is made by a visit, if its condition holds.
abbrev pub PreparesIf : Bool → RevisionTag → EditRequest → List ℕ → Prepared → Type 0
PreparesIf true tag request body found = PreparesBody request body found
PreparesIf false tag request body found = Responds (response.OtherRevision tag) found

abbrev pub PreparesEdit : State → EditRequest → List ℕ → Prepared → Type 0
PreparesEdit hub request body found =
    let tag = tag_of hub (revision_named (string_bytes request.room) hub)
    in PreparesIf (holds_at hub request tag) tag request body found

-- the response if no session could be opened
abbrev pub refused_response : OpenFault → Response
refused_response opening.RoomName = response.NoRoom
refused_response opening.RoomsFull = response.Unavailable unavailable.Rooms
refused_response opening.SessionsFull = response.Unavailable unavailable.Sessions
refused_response opening.Exhausted = response.Unavailable unavailable.Sessions
refused_response opening.NoMemory = response.Unavailable unavailable.Memory

-- the response to a request that a room is forgotten
abbrev pub forgotten_response : Result ℕ ForgetFault → Response
forgotten_response (Ok rev) = response.Forgotten
forgotten_response (Err forget.NoRoom) = response.NotForgotten kept.NoRoom
forgotten_response (Err forget.Occupied) = response.NotForgotten kept.Occupied
forgotten_response (Err forget.Exhausted) = response.NotForgotten kept.Exhausted
forgotten_response (Err forget.NoMemory) = response.NotForgotten kept.NoMemory

-- what a snapshot of a revision shows of a part is the response to a request for that part
abbrev pub ShowsPart : State → ℕ → List ℕ → Response → Type 0
ShowsPart hub rev snapshot response.NoValue = snapshot ≡ snapshot_text rev []
ShowsPart hub rev snapshot (response.Part tag value) =
    (tag ≡ tag_of hub rev) × (snapshot ≡ snapshot_text rev value.now) × (value.now ≢ [])
ShowsPart hub rev snapshot reply = ⊥

abbrev pub ShowsPartIn : State → ℕ → Option (List ℕ) → Response → Type 0
ShowsPartIn hub rev (Some snapshot) reply = ShowsPart hub rev snapshot reply
ShowsPartIn hub rev None reply = ⊥

-- the response to a request that was accepted: to an edit the next revision, to any other the part
abbrev pub AnswersAccepted : State → RoomRequest → ℕ → List ℕ → Option (List ℕ) → Response
    → Type 0
AnswersAccepted hub (Edit edit) rev said snapshot (response.Edited tag reply) =
    (tag ≡ tag_of hub (saturated (rev + 1))) × (reply.now ≡ said)
AnswersAccepted hub (Edit edit) rev said snapshot reply = ⊥
AnswersAccepted hub request rev said snapshot reply = ShowsPartIn hub rev snapshot reply

-- the response by what came of a request at a revision, the hub's reply to it, and the snapshot
-- behind that, if there is one
abbrev pub AnswersOutcome : Outcome → State → RoomRequest → ℕ → List ℕ → Option (List ℕ) → Response
    → Type 0
AnswersOutcome Malformed hub request rev said snapshot (response.Malformed reply) =
    reply.now ≡ said
AnswersOutcome Unprocessable hub request rev said snapshot (response.Unprocessable reply) =
    reply.now ≡ said
AnswersOutcome Stale hub request rev said snapshot reply =
    reply ≡ response.OtherRevision (tag_of hub rev)
AnswersOutcome Accepted hub request rev said snapshot reply =
    AnswersAccepted hub request rev said snapshot reply
AnswersOutcome outcome hub request rev said snapshot reply = ⊥

abbrev pub AnswersReply : State → RoomRequest → ℕ → Option (List ℕ) → Option (List ℕ) → Response
    → Type 0
AnswersReply hub request rev (Some said) snapshot reply =
    AnswersOutcome (outcome_of said) hub request rev said snapshot reply
AnswersReply hub request rev None snapshot reply = ⊥

-- The response by the texts of a session that was opened at a revision: the welcome, the reply to
-- what it said, and the snapshot that a watch makes due.
abbrev pub AnswersTexts : State → RoomRequest → ℕ → List (List ℕ) → Response → Type 0
AnswersTexts hub request rev texts reply =
    AnswersReply hub request rev (slice_get texts 1) (slice_get texts 2) reply

-- the response by a visit; none, if memory was refused once the hub had heard the text
abbrev pub AnswersVisit : State → RoomRequest → VisitOutcome → List (List ℕ) → Response → Type 0
AnswersVisit hub request (visit.Refused fault) texts reply = reply ≡ refused_response fault
AnswersVisit hub request (visit.Unheard o) texts reply =
    reply ≡ response.Unavailable unavailable.Memory
AnswersVisit hub request (visit.Undrawn o) texts reply = ⊥
AnswersVisit hub request (visit.Answered o) texts reply =
    AnswersTexts hub request o.rev texts reply

-- a text is that of the response by a visit
pub record IsVisitResponse (hub : State) (request : RoomRequest) (made : Visit) (text : List ℕ)
    : Type 0 where
  pub reply : Response
  pub answers : AnswersVisit hub request made.outcome made.texts.items reply
  pub is : text ≡ response_text reply

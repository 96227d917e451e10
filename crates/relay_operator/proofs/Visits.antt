-- The responses to requests for a room, with and without a visit.
use Rattle.std.proofs.Common.{◌≡◌, ◌↔◌, ℕ, true, false, List, take, drop, string_bytes, String}
use Rattle.std.proofs.Common.{Global, Option, Some, None, IsSome, option_map, Result, Ok, Err, IfOk}
use Rattle.std.proofs.Common.{sym, ap, subst, ◌∙◌}
use Rattle.httparse.specs.Grammar.{RequestHead}
use Rattle.json.specs.Lex.{tokens}
use Rattle.relay_admin.specs.Asking.{IsJson, edit_tokens}
use Rattle.relay_admin.specs.Conditions.{is_named}
use Rattle.relay_admin.specs.Judged.{edit_of, part_of}
use Rattle.relay_admin.specs.Responses.{response_text}
use Rattle.relay_admin.specs.declared.response.Response.{Response}
use Rattle.relay_admin.specs.declared.response.Response.TheVariants as response
use Rattle.relay_admin.specs.declared.room.edit.EditRequest.{EditRequest}
use Rattle.relay_admin.specs.declared.room.part.PartRequest.{PartRequest}
use Rattle.relay_admin.specs.declared.room.revision_tag.RevisionTag.{RevisionTag}
use Rattle.relay_hub.specs.State.{State, RoomSessions}
use Rattle.relay_hub.specs.Summary.{Summary, room_named, shown_by, summary_of}
use Rattle.relay_hub.specs.declared.summary.RoomSummary.{RoomSummary}
use Rattle.relay_link.specs.declared.visit.Visit.{Visit}
use Rattle.relay_room.specs.Room.{revision}
use Rattle.relay_operator.specs.Answering.{Prepares}
use Rattle.relay_operator.specs.Request.{Makes, body_of}
use Rattle.relay_operator.specs.RoomVisit.{AsksVisit}
use Rattle.relay_operator.specs.Visiting.{AnswersVisit, IsVisitResponse, PreparesBody}
use Rattle.relay_operator.specs.Visiting.{PreparesEdit, PreparesIf, PreparesPart, PreparesRead}
use Rattle.relay_operator.specs.Visiting.{PreparesReadBy, Responds, SaysNotJson, VisitsToRead}
use Rattle.relay_operator.specs.Visiting.{holds_at, revision_named, tag_of}
use Rattle.relay_operator.specs.declared.room_request.Prepared.{Prepared}
use Rattle.relay_operator.specs.declared.room_request.Prepared.TheVariants as prepared
use Rattle.relay_operator.specs.declared.room_request.RoomRequest.{RoomRequest}
use Rattle.relay_operator.specs.declared.room_request.RoomRequest.TheVariants as room
use Rattle.relay_operator.specs.declared.room_request.RoomVisit.{RoomVisit}

-- a text of the response by a visit
pub is_visit_response : {E : Type 0} (hub : State) (request : RoomRequest) (visit : Visit)
    (reply : Response) (made : Result (String Global) E)
    → AnswersVisit hub request visit.outcome visit.texts.items reply
    → IfOk made (λ text. string_bytes text ≡ response_text reply)
    → IfOk made (λ text. IsVisitResponse hub request visit (string_bytes text))
is_visit_response hub request visit reply (Ok text) answers is = record {
  reply = reply;
  answers = answers;
  is = is;
}
is_visit_response hub request visit reply (Err fault) answers is = tt

revision_shown : Option Summary → ℕ
revision_shown (Some s) = s.revision
revision_shown None = 0

-- a room whose present tag is among those that the client has
known_by : (room : Option (List ℕ × RoomSessions)) (hub : State) (request : PartRequest)
    (seen : RoomSummary) (tag : RevisionTag) (found : Prepared)
    → Some (shown_by seen) ≡ option_map summary_of room → tag ≡ tag_of hub seen.revision
    → is_named tag request.if_none_match ≡ true → Responds (response.NotModified tag) found
    → PreparesReadBy room hub request found
unfolding revision_shown
known_by None hub request seen tag found same is_tag named responds = absurd (cc same)
known_by (Some room) hub request seen tag found same is_tag named responds =
    let rev : seen.revision ≡ revision room.1.room = ap revision_shown same in
    let base : PreparesPart (is_named tag request.if_none_match) tag request found =
    subst (λ b. PreparesPart b tag request found) (sym named) responds in
    subst (λ t. PreparesPart (is_named t request.if_none_match) t request found)
    (is_tag ∙ ap (tag_of hub) rev) base

pub prepares_known : {E : Type 0} (hub : State) (request : PartRequest) (name : List ℕ)
    (shown : Option RoomSummary) (seen : RoomSummary) (tag : RevisionTag) (made : Result Prepared E)
    → name ≡ string_bytes request.room
    → option_map shown_by shown ≡ option_map summary_of (room_named name hub.rooms)
    → shown ≡ Some seen → tag ≡ tag_of hub seen.revision
    → is_named tag request.if_none_match ≡ true → IfOk made (Responds (response.NotModified tag))
    → IfOk made (PreparesRead hub request)
prepares_known hub request name shown seen tag (Ok found) same shows is is_tag named responds =
    let there : Some (shown_by seen)
    ≡ option_map summary_of (room_named (string_bytes request.room) hub.rooms) =
    ap (option_map shown_by) (sym is) ∙ shows
    ∙ ap (λ n. option_map summary_of (room_named n hub.rooms)) same in
    known_by (room_named (string_bytes request.room) hub.rooms) hub request seen tag found there
    is_tag named responds
prepares_known hub request name shown seen tag (Err fault) same shows is is_tag named responds = tt

no_json : {J : Type 0} (text : Option (String Global)) → text ≡ None → (IsSome text ↔ J) → J → ⊥
no_json None is json holds = cc (json.1 holds)
no_json (Some text) is json holds = absurd (cc is)

-- a body that is no JSON makes no edit
pub prepares_not_json : {E : Type 0} (hub : State) (request : EditRequest) (body : List ℕ)
    (text : Option (String Global)) (tag : RevisionTag) (reply : Response)
    (made : Result Prepared E) → tag ≡ tag_of hub (revision_named (string_bytes request.room) hub)
    → holds_at hub request tag ≡ true → text ≡ None → (IsSome text ↔ IsJson body)
    → SaysNotJson reply → IfOk made (Responds reply) → IfOk made (PreparesEdit hub request body)
prepares_not_json hub request body text tag reply (Ok (prepared.Response words)) is_tag holds none
    json says responds =
    let base : PreparesBody request body (prepared.Response words) =
    (no_json text none json, reply, says, responds) in
    let given : PreparesIf (holds_at hub request tag) tag request body (prepared.Response words) =
    subst (λ b. PreparesIf b tag request body (prepared.Response words)) (sym holds) base in
    subst (λ t. PreparesIf (holds_at hub request t) t request body (prepared.Response words))
    is_tag given
prepares_not_json hub request body text tag reply (Ok (prepared.Visit visit)) is_tag holds none json
    says responds = absurd responds
prepares_not_json hub request body text tag reply (Err fault) is_tag holds none json says responds =
    tt

-- ---- what a head asks

-- a request that comes to a visit is for that visit
visits_read_by : (room : Option (List ℕ × RoomSessions)) (hub : State) (request : PartRequest)
    (visit : RoomVisit) → PreparesReadBy room hub request (prepared.Visit visit)
    → VisitsToRead request (prepared.Visit visit)
visits_read_by None hub request visit comes = absurd comes
visits_read_by (Some room) hub request visit comes =
    let tag = tag_of hub (revision room.1.room) in
    elim (is_named tag request.if_none_match)
    as (λ named. PreparesPart named tag request (prepared.Visit visit)
    → VisitsToRead request (prepared.Visit visit)) [ true ↦ λ h. absurd h | false ↦ λ h. h ] comes

visits_to_edit : (hub : State) (request : EditRequest) (body : List ℕ) (visit : RoomVisit)
    → PreparesEdit hub request body (prepared.Visit visit)
    → PreparesBody request body (prepared.Visit visit)
visits_to_edit hub request body visit comes =
    let tag = tag_of hub (revision_named (string_bytes request.room) hub) in
    elim (holds_at hub request tag)
    as (λ holds. PreparesIf holds tag request body (prepared.Visit visit)
    → PreparesBody request body (prepared.Visit visit)) [ true ↦ λ h. h | false ↦ λ h. absurd h ]
    comes

-- a head that makes the request asks for the visit that it comes to
pub asks_visit : (hub : State) (bytes : List ℕ) (request : RoomRequest) (visit : RoomVisit)
    → Prepares hub bytes request (prepared.Visit visit) → (head : RequestHead)
    → Makes request head → AsksVisit visit bytes head
asks_visit hub bytes (room.Read part) visit comes head makes = (
  part_of part,
  makes.0,
  visits_read_by (room_named (string_bytes part.room) hub.rooms) hub part visit comes,
)
asks_visit hub bytes (room.Edit edit) visit comes head makes =
    let made = visits_to_edit hub edit (body_of edit bytes) visit comes in (
      edit_of edit,
      makes.0,
      (
        made.1,
        made.2,
        subst (λ n. tokens visit.text ≡ edit_tokens None (tokens (take edit.length (drop n bytes))))
            makes.1 made.3,
      ),
    )
asks_visit hub bytes (room.Open name) visit comes head makes = absurd comes
asks_visit hub bytes (room.Close name) visit comes head makes = absurd comes
asks_visit hub bytes (room.Forget name) visit comes head makes = absurd comes

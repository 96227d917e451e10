-- A request for a room is noted as the bytes say it, and stays so.
use Rattle.std.proofs.Common.{◌≡◌, ℕ, Bool, true, false, if◌then◌else◌, List, ◌++◌, string_bytes}
use Rattle.std.proofs.Common.{Option, Some, None, Result, Ok, Err, refl, sym, ap, subst, is_ok, inr}
use Rattle.std.specs.Bool.{⊤}
use Rattle.relay_access.specs.RoomName.{is_room_name}
use Rattle.relay_admin.specs.Admitted.{AdmitsExactly}
use Rattle.relay_admin.specs.Asked.{AnswersHead, AnswersNoHead, FollowsHead, HasHead}
use Rattle.relay_admin.specs.Judged.{verdict_told}
use Rattle.relay_admin.specs.Verdict.{accept}
use Rattle.relay_admin.specs.declared.answer.Ask.{Ask}
use Rattle.relay_admin.specs.declared.answer.Ask.TheVariants as ask
use Rattle.relay_operator.specs.Request.{Answers, BeginsWith, HasBodyAt, IsSaid, Makes, Notes}
use Rattle.relay_operator.specs.Connection.{IsUnfinished}
use Rattle.relay_operator.specs.Request.{NotesAsked, Request, asked_in, asking}
use Rattle.relay_operator.specs.RoomRequest.{asked_of_room}
use Rattle.relay_operator.specs.declared.room_request.RoomRequest.{RoomRequest}
use Rattle.relay_operator.specs.declared.room_request.RoomRequest.TheVariants as room
use Rattle.relay_operator.proofs.Heads.{begins_more, has_head}

-- the answer to these bytes
pub answers_all : (bytes : List ℕ) (answer : Ask) → AdmitsExactly bytes answer
    → AnswersHead bytes answer → AnswersNoHead bytes answer → FollowsHead bytes answer
    → Answers bytes answer
answers_all bytes answer admits head no_head body = record {
  admits = admits;
  head = head;
  no_head = no_head;
  body = body;
}

-- an answer that asks this of a room tells it, and of an edit where the body begins
Tells : Ask → RoomRequest → Type 0
Tells answer request =
    (verdict_told answer ≡ accept (asked_in request))
    × ((index : ℕ) → HasHead index answer → HasBodyAt index request)

tells : (answer : Ask) (request : RoomRequest) → asked_of_room answer ≡ Ok request
    → Tells answer request
unfolding Tells
tells (ask.Forget name) request same =
    let is : room.Forget name ≡ request = cc in
    subst (λ r. (accept (asked_in (room.Forget name)) ≡ accept (asked_in r))
    × ((index : ℕ) → ⊤ → HasBodyAt index r)) is (refl, λ index none. tt)
tells (ask.Exclude name) request same =
    let is : room.Close name ≡ request = cc in
    subst (λ r. (accept (asked_in (room.Close name)) ≡ accept (asked_in r))
    × ((index : ℕ) → ⊤ → HasBodyAt index r)) is (refl, λ index none. tt)
tells (ask.Read part) request same =
    let is : room.Read part ≡ request = cc in
    subst (λ r. (accept (asked_in (room.Read part)) ≡ accept (asked_in r))
    × ((index : ℕ) → ⊤ → HasBodyAt index r)) is (refl, λ index none. tt)
tells (ask.Edit edit) request same =
    let is : room.Edit edit ≡ request = cc in
    subst (λ r. (accept (asked_in (room.Edit edit)) ≡ accept (asked_in r))
    × ((index : ℕ) → edit.head ≡ index → HasBodyAt index r)) is (refl, λ index at. at)
tells (ask.Admit name) request same =
    elim (is_room_name (string_bytes name))
    as (λ is_name. (if is_name then Ok (room.Open name) else Err (ask.Admit name)) ≡ Ok request
    → Tells (ask.Admit name) request) [
      | true ↦ λ e.
          let is : room.Open name ≡ request = cc e in
          subst (λ r. (accept (asked_in (room.Open name)) ≡ accept (asked_in r))
          × ((index : ℕ) → ⊤ → HasBodyAt index r)) is (refl, λ index none. tt)
      | false ↦ λ e. absurd (cc e)
    ] same
tells ask.More request same = absurd (cc same)
tells (ask.Request r) request same = absurd (cc same)
tells (ask.Refused fault) request same = absurd (cc same)

-- a request for a room is what the bytes say
pub said : (bytes : List ℕ) (answer : Ask) (request : RoomRequest) → Answers bytes answer
    → asked_of_room answer ≡ Ok request → BeginsWith (Makes request) bytes
unfolding Tells
said bytes answer request answers same =
    let told = tells answer request same in
    record {
      has_head = has_head bytes answer (asked_in request) answers told.0;
      says = λ head rest reads. (
        (answers.admits head rest (asked_in request) reads).0 told.0,
        told.1 _ (answers.body head rest reads),
      );
    }

-- and stays so
pub said_more : (asked : Option RoomRequest) (bytes more : List ℕ) → IsSaid asked bytes
    → IsSaid asked (bytes ++ more)
said_more (Some request) bytes more is = begins_more (Makes request) bytes more is
said_more None bytes more is = tt

-- also if memory for more was refused
pub said_extended : {E : Type 0} (asked : Option RoomRequest) (bytes more now : List ℕ)
    (held : Result (Unit {0}) E) → now ≡ (if is_ok held then bytes ++ more else bytes)
    → IsSaid asked bytes → IsSaid asked now
said_extended asked bytes more now (Ok done) is said =
    subst (IsSaid asked) (sym is) (said_more asked bytes more said)
said_extended asked bytes more now (Err fault) is said = subst (IsSaid asked) (sym is) said

-- a request for a room is noted
pub notes_request : (held old new : Request) (answer : Ask) (request : RoomRequest) → held ≡ old
    → Answers held.bytes answer → asked_of_room answer ≡ Ok request → new ≡ asking request held
    → Notes None old new
notes_request held old new answer request same answers asks is = rw (← same) (record {
  answer = answer;
  answers = answers;
  notes = rw asks is;
})

-- any other answer is given back
pub notes_other : (held old : Request) (answer given : Ask) → held ≡ old
    → Answers held.bytes answer → asked_of_room answer ≡ Err given → Notes (Some given) old old
notes_other held old answer given same answers asks = rw (← same) (record {
  answer = answer;
  answers = answers;
  notes = rw asks (refl, refl);
})

-- what asks nothing of a room is passed on as it is
passed_on : (answer given : Ask) → asked_of_room answer ≡ Err given → given ≡ answer
passed_on ask.More given same = cc
passed_on (ask.Request r) given same = cc
passed_on (ask.Refused fault) given same = cc
passed_on (ask.Forget name) given same = cc
passed_on (ask.Exclude name) given same = cc
passed_on (ask.Read part) given same = cc
passed_on (ask.Edit edit) given same = cc
passed_on (ask.Admit name) given same =
    let passed : Bool → Result RoomRequest Ask =
    λ is_name. if is_name then Ok (room.Open name) else Err (ask.Admit name) in
    elim (is_room_name (string_bytes name))
    as (λ is_name. passed is_name ≡ Err given → given ≡ ask.Admit name)
    [ true ↦ λ e. cc e | false ↦ λ e. cc e ] same

given_by : (asked : Result RoomRequest Ask) (given : Ask) (old new : Request)
    → NotesAsked asked (Some given) old new → (asked ≡ Err given) × (new ≡ old)
given_by (Ok request) given old new notes = absurd notes
given_by (Err answer) given old new notes = (ap Err (sym notes.0), notes.1)

-- what is given back is the answer to the bytes, and nothing is noted
pub given_back : (given : Ask) (old new : Request) → Notes (Some given) old new
    → Answers old.bytes given × (new ≡ old)
given_back given old new notes =
    let back = given_by (asked_of_room notes.answer) given old new notes.notes in (
      subst (Answers old.bytes) (sym (passed_on notes.answer given back.0)) notes.answers,
      back.1,
    )

-- ---- parts of a request

pub unfinished_same : (old between new : Request) → IsUnfinished old between → new ≡ between
    → IsUnfinished old new
unfinished_same old between new is same = subst (IsUnfinished old) (sym same) is

pub unfinished_more : (old between new : Request) → Notes (Some ask.More) between new
    → IsUnfinished old new
unfinished_more old between new notes =
    let back = given_back ask.More between new notes in
    inr (subst (λ r. Answers r.bytes ask.More) (sym back.1) back.0)

-- A connection gets its response, or is gone; and of those that ask, which is the first.
use Rattle.std.proofs.Common.{◌≡◌, ◌⊎◌, inl, inr, ℕ, ◌<◌, ◌+◌, List, [], ◌∷◌, length, Option, Some}
use Rattle.std.proofs.Common.{None, Result, Ok, Err, IfOk, IfNone, String, Global, string_bytes}
use Rattle.std.proofs.Common.{true, false, refl, sym, ap, subst, ◌∙◌, suc, arith, get_or}
use Rattle.std.proofs.Common.{slice_set, IfSome, option_copied, ◌≤◌}
use denote.Ref.{Bor}
use Rattle.std.proofs.lemmas.List.{take-set, drop-set-lt}
use Rattle.std.proofs.lemmas.Option.{get_or_from_slice_get, slice_get-get_or, slice_get_read}
use Rattle.std.proofs.lemmas.Option.{slice_get_past, slice_get_within}
use Rattle.std.proofs.lemmas.List.Quantifiers.{position-Some}
use Rattle.std.specs.List.{Any, remove}
use Rattle.std.specs.declared.alloc.AllocError.{AllocError}
use Rattle.httparse.specs.Grammar.{RequestHead}
use Rattle.relay_admin.specs.Admitted.{IsAdmitted}
use Rattle.relay_admin.specs.Responses.{response_text}
use Rattle.relay_admin.specs.Route.{admit, exclude, forget}
use Rattle.relay_admin.specs.declared.response.Response.{Response}
use Rattle.relay_hub.specs.State.{State}
use Rattle.relay_link.specs.declared.entrance_fault.EntranceFault.{EntranceFault}
use Rattle.relay_operator.specs.Admission.{admission_response}
use Rattle.relay_operator.specs.Answering.{AdmissionOf, AdmitsAt, AnswersAt, AnswersSome}
use Rattle.relay_operator.specs.Answering.{FirstAdmits, GivesAt, Prepares, PreparesAt, SaysAdmitted}
use Rattle.relay_operator.specs.Answering.{SaysWithout}
use Rattle.relay_operator.specs.Answering.{asked_at, first_to, one}
use Rattle.relay_operator.specs.Connection.{Tells, answered, asks_for}
use Rattle.relay_operator.specs.Port.{AsksRoomAt, SomeAdmits, SomeForgets, SomeReceived}
use Rattle.relay_operator.specs.Port.{SomeVisits}
use Rattle.relay_operator.specs.Request.{BeginsWith, Makes, asked_by, asked_in}
use Rattle.relay_operator.specs.RoomVisit.{AsksVisit}
use Rattle.relay_operator.specs.RoomRequest.{is_of, is_some_of}
use Rattle.relay_operator.specs.declared.admin_connection.AdminConnection.{AdminConnection}
use Rattle.relay_operator.specs.declared.admission.Admission.{Admission}
use Rattle.relay_operator.specs.declared.admission.Admission.TheVariants as admission
use Rattle.relay_operator.specs.declared.room_request.Kind.{Kind}
use Rattle.relay_operator.specs.declared.room_request.Kind.TheVariants as kind
use Rattle.relay_operator.specs.declared.room_request.Prepared.{Prepared}
use Rattle.relay_operator.specs.declared.room_request.Prepared.TheVariants as prepared
use Rattle.relay_operator.specs.declared.room_request.RoomRequest.{RoomRequest}
use Rattle.relay_operator.specs.declared.room_request.RoomRequest.TheVariants as room
use Rattle.relay_operator.specs.declared.room_request.RoomVisit.{RoomVisit}
use Rattle.relay_operator.proofs.Visits.{asks_visit}

-- an element that is set, and then removed
remove_set : {A : Type 0} (xs : List A) (i : ℕ) (x : A)
    → remove (slice_set xs i x) i ≡ remove xs i
remove_set xs i x =
    rw (take-set xs i x, drop-set-lt (suc i) xs i x (omega arith)) refl

module _ {S : Type 0} where
  -- whoever is the first to ask for something asks for it
  pub first_asks : (k : Kind) (connections : List (AdminConnection S)) (index : ℕ)
      → first_to k connections ≡ Some index → is_some_of k (asked_at index connections) ≡ true
  first_asks k [] index first = absurd (cc first)
  first_asks k (c ∷ cs) index first =
      let found = position-Some (asks_for k) (c ∷ cs) index c first in
      rw (slice_get-get_or (c ∷ cs) index c found.0) found.1

  pub first_asks_not : (k : Kind) (connections : List (AdminConnection S)) (index : ℕ)
      → first_to k connections ≡ Some index → is_some_of k (asked_at index connections) ≡ false
      → ⊥
  first_asks_not k connections index first is = cc (sym (first_asks k connections index first) ∙ is)

  pub none_asks : {X : Type 0} (k : Kind) (connections : List (AdminConnection S)) (index : ℕ)
      (result : Option X) → first_to k connections ≡ Some index
      → IfNone result (is_some_of k (asked_at index connections) ≡ false)
      → IfNone result (first_to k connections ≡ None)
  none_asks k connections index None first is =
      absurd (first_asks_not k connections index first is)
  none_asks k connections index (Some x) first is = tt

-- a request for something else
pub not_forgotten : (request : RoomRequest)
    → ((name : String Global) → request ≡ room.Forget name → ⊥)
    → is_of kind.Forgetting request ≡ false
not_forgotten (room.Open name) not = refl
not_forgotten (room.Close name) not = refl
not_forgotten (room.Forget name) not = absurd (not name refl)
not_forgotten (room.Read part) not = refl
not_forgotten (room.Edit edit) not = refl

-- the text of a response by what came of a request for the way into a room
says_admitted : {E : Type 0} (made : Result (String Global) E) (request : RoomRequest)
    (asked : Admission) (came : Result (Unit {0}) EntranceFault) (response : Response)
    → AdmissionOf request asked → response ≡ admission_response asked came
    → IfOk made (λ text. string_bytes text ≡ response_text response)
    → IfOk made (λ text. SaysAdmitted (Some request) came (string_bytes text))
says_admitted (Ok text) request asked came response admits is says =
    (asked, admits, says ∙ ap response_text is)
says_admitted (Err fault) request asked came response admits is says = tt

module _ {S : Type 0} where
  -- what a connection says that it asks is asked at its index
  pub asks_at : (index : ℕ) (held connections : List (AdminConnection S)) (c : AdminConnection S)
      (found : Option (Bor RoomRequest)) → held ≡ connections → index < length held
      → c ≡ get_or held index c → option_copied found ≡ asked_by c.request
      → IfSome found (λ r. BeginsWith (Makes r.now) c.request.bytes)
      → IfSome found (λ r. AsksRoomAt index r.now connections)
  asks_at index held connections c (Some r) same within at asked said = record {
    asker = c;
    there = rw (← same) (slice_get_read held (length held) index c refl within at);
    whole = sym asked;
    said = said;
  }
  asks_at index held connections c None same within at asked said = tt

  pub asks_past : (index : ℕ) (held connections : List (AdminConnection S)) → held ≡ connections
      → length held ≤ index → None ≡ asked_at index connections
  asks_past index held connections same past =
      rw (← same, slice_get_past held index past) refl

  -- what a connection's request comes to is what the request at its index comes to
  pub prepares_at : {E : Type 0} (hub : State) (index : ℕ)
      (held connections : List (AdminConnection S)) (c : AdminConnection S) (request : RoomRequest)
      (made : Result Prepared E) → held ≡ connections → index < length held
      → c ≡ get_or held index c → Some request ≡ asked_by c.request
      → BeginsWith (Makes request) c.request.bytes
      → IfOk made (Prepares hub c.request.bytes request)
      → IfOk made (PreparesAt hub connections index)
  prepares_at hub index held connections c request (Ok found) same within at asked said comes =
      record {
        request = request;
        asks = record {
          asker = c;
          there = rw (← same) (slice_get_read held (length held) index c refl within at);
          whole = sym asked;
          said = said;
        };
        comes = comes;
      }
  prepares_at hub index held connections c request (Err fault) same within at asked said comes = tt

  -- a request that is made at an index is the one that is asked there
  pub asked_is : (index : ℕ) (request : RoomRequest) (connections : List (AdminConnection S))
      → AsksRoomAt index request connections → asked_at index connections ≡ Some request
  asked_is index request connections asks = rw asks.there asks.whole

  pub says_admitted_at : {E : Type 0} (index : ℕ) (connections : List (AdminConnection S))
      (made : Result (String Global) E) (asked : Admission)
      (came : Result (Unit {0}) EntranceFault) (response : Response)
      → AdmitsAt index asked connections → response ≡ admission_response asked came
      → IfOk made (λ text. string_bytes text ≡ response_text response)
      → IfOk made (λ text. SaysAdmitted (asked_at index connections) came (string_bytes text))
  says_admitted_at index connections made asked came response admits is says =
      rw (asked_is index admits.0 connections admits.1)
      (says_admitted made admits.0 asked came response admits.2 is says)

  -- a connection that makes a request received a head of which this holds, if it holds of each
  -- that makes the request
  received : (index : ℕ) (request : RoomRequest) (connections : List (AdminConnection S))
      (Says : AdminConnection S → RequestHead → Type 0)
      (asks : AsksRoomAt index request connections)
      → ((head : RequestHead) → Makes request head → Says asks.asker head)
      → Any (λ c. BeginsWith (Says c) c.request.bytes) connections
  received index request connections Says asks all = (
    index,
    asks.asker,
    slice_get_within connections index asks.asker asks.there,
    get_or_from_slice_get connections index asks.asker asks.asker asks.there,
    record {
      has_head = asks.said.has_head;
      says = λ head rest reads. all head (asks.said.says head rest reads);
    },
  )

  -- so it received one that is admitted as that request
  received_as : (index : ℕ) (request : RoomRequest) (connections : List (AdminConnection S))
      → AsksRoomAt index request connections
      → SomeReceived (λ head. IsAdmitted head (asked_in request)) connections
  received_as index request connections asks =
      received index request connections (λ c head. IsAdmitted head (asked_in request)) asks
      (λ head makes. makes.0)

  -- a visit that the request at an index comes to is one that a head received asks for
  pub some_visits : (hub : State) (connections : List (AdminConnection S)) (index : ℕ)
      (visit : RoomVisit) → PreparesAt hub connections index (prepared.Visit visit)
      → SomeVisits visit connections
  some_visits hub connections index visit prepares =
      received index prepares.request connections (λ c head. AsksVisit visit c.request.bytes head)
      prepares.asks
      (asks_visit hub prepares.asks.asker.request.bytes prepares.request visit prepares.comes)

  admits_by : (index : ℕ) (request : RoomRequest) (asked : Admission)
      (connections : List (AdminConnection S)) → AsksRoomAt index request connections
      → AdmissionOf request asked → SomeAdmits asked connections
  admits_by index (room.Open name) (admission.Open given) connections asks is =
      subst (λ n. SomeReceived (λ head. IsAdmitted head (admit n)) connections) is
      (received_as index (room.Open name) connections asks)
  admits_by index (room.Close name) (admission.Close given) connections asks is =
      subst (λ n. SomeReceived (λ head. IsAdmitted head (exclude n)) connections) is
      (received_as index (room.Close name) connections asks)
  admits_by index (room.Open name) (admission.Close given) connections asks is = absurd is
  admits_by index (room.Close name) (admission.Open given) connections asks is = absurd is
  admits_by index (room.Forget name) asked connections asks is = absurd is
  admits_by index (room.Read part) asked connections asks is = absurd is
  admits_by index (room.Edit edit) asked connections asks is = absurd is

  -- a request for the way into a room came
  pub some_admits : (index : ℕ) (asked : Option Admission) (connections : List (AdminConnection S))
      → IfSome asked (λ a. AdmitsAt index a connections)
      → IfSome asked (λ a. SomeAdmits a connections)
  some_admits index (Some asked) connections (request, asks, is) =
      admits_by index request asked connections asks is
  some_admits index None connections none = tt

  -- and it was the first
  pub first_admits : (index : ℕ) (asked : Option Admission) (connections : List (AdminConnection S))
      → first_to kind.Admission connections ≡ Some index
      → IfSome asked (λ a. AdmitsAt index a connections)
      → IfSome asked (λ a. FirstAdmits a connections)
  first_admits index (Some asked) connections first at = (index, first, at)
  first_admits index None connections first none = tt

  -- a request that a room is forgotten came
  pub some_forgets : (index : ℕ) (name : String Global) (given : List ℕ)
      (connections : List (AdminConnection S)) → AsksRoomAt index (room.Forget name) connections
      → string_bytes name ≡ given → SomeForgets given connections
  some_forgets index name given connections asks is =
      subst (λ n. SomeReceived (λ head. IsAdmitted head (forget n)) connections) is
      (received_as index (room.Forget name) connections asks)

module _ {S : Type 0} (contents : S → Option (List ℕ)) where
  -- a connection has its response, and stays, or is gone once it had it
  pub gives : (index : ℕ) (reply : String Global) (asker between told : AdminConnection S)
      (old new : List (AdminConnection S)) → index < length old → asker ≡ get_or old index asker
      → between ≡ answered reply asker → Tells contents between told
      → (new ≡ slice_set old index told) ⊎ (new ≡ remove (slice_set old index told) index)
      → GivesAt contents index (Ok reply) old new
  gives index reply asker between told old new within is given tells left =
      let told_so = subst (λ c. Tells contents c told) given tells in
      rw (slice_get_read old (length old) index asker refl within is) (elim left [
        | inl stays ↦ (told, told_so, inl stays)
        | inr gone ↦ (told, told_so, inr (gone ∙ remove_set old index told))
      ])

  -- the first that asks gets its response
  pub answers_first : (index : ℕ) (Says : ℕ → List ℕ → Type 0)
      (reply : Result (String Global) AllocError) (found : Option ℕ)
      (old new : List (AdminConnection S)) → found ≡ Some index
      → IfOk reply (λ text. Says index (string_bytes text)) → GivesAt contents index reply old new
      → AnswersAt contents found Says old new
  answers_first index Says reply found old new first says gives = rw first (reply, says, gives)

  -- one more gets its response without a visit
  pub answers_next : (hub : State) (n index : ℕ) (reply : Result (String Global) AllocError)
      (old between new : List (AdminConnection S)) → AnswersSome contents hub n old between
      → first_to kind.Visit between ≡ Some index
      → IfOk reply (λ text. SaysWithout hub between index (string_bytes text))
      → GivesAt contents index reply between new → AnswersSome contents hub (n + 1) old new
  answers_next hub n index reply old between new before first says gives =
      one n old between new before
      (answers_first index (SaysWithout hub between) reply (first_to kind.Visit between) between new
      first says gives)

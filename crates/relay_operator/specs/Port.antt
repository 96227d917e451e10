-- The connections to the admin port.
use Rattle.std.specs.Prelude.{◌≡◌, ◌⊎◌, ⊤, ℕ, ◌+◌, nat_lt, Bool, true, false, ◌||◌, if◌then◌else◌}
use Rattle.std.specs.Prelude.{List, [], ◌∷◌, ◌++◌, Any, length, take, drop, slice_get, string_bytes}
use Rattle.std.specs.Prelude.{Option, Some, None}
use Rattle.std.specs.declared.alloc.Global.{Global}
use Rattle.std.specs.declared.string.String.{String}
use Rattle.std.specs.Io.KnownBytes.{Consumes}
use Rattle.httparse.specs.Grammar.{RequestHead}
use Rattle.relay_admin.specs.Admitted.{IsAdmitted}
use Rattle.relay_admin.specs.Route.{Asked, admit, exclude, forget, request}
use Rattle.relay_admin.specs.declared.request.AdminRequest.{AdminRequest}
use Rattle.relay_admin.specs.declared.request.AdminRequest.TheVariants.{Open, Stop}
use Rattle.relay_operator.specs.Connection.{IsFresh, Tells, answered}
use Rattle.relay_operator.specs.Request.{BeginsWith, Makes, asked_by}
use Rattle.relay_operator.specs.RoomVisit.{AsksVisit}
use Rattle.relay_operator.specs.declared.admission.Admission.{Admission}
use Rattle.relay_operator.specs.declared.admission.Admission.TheVariants as admission
use Rattle.relay_operator.specs.declared.room_request.RoomRequest.{RoomRequest}
use Rattle.relay_operator.specs.declared.room_request.RoomVisit.{RoomVisit}
use Rattle.relay_operator.specs.declared.admin_connection.Found.{Found}
use Rattle.relay_operator.specs.declared.admin_connection.Found.TheVariants.{More}
use Rattle.relay_operator.specs.declared.admin_port.AdminTurn.{AdminTurn}
use Rattle.relay_operator.specs.declared.admin_connection.AdminConnection.{AdminConnection}
use Rattle.relay_operator.specs.declared.admin_port.TheConstants.{MAX_CONNECTIONS}

-- a connection has more to do
abbrev pub is_more : Found → Bool
is_more More = true
is_more found = false

-- a request is to open, or to stop
abbrev pub is_open : Option AdminRequest → Bool
is_open (Some Open) = true
is_open served = false

abbrev pub is_stop : Option AdminRequest → Bool
is_stop (Some Stop) = true
is_stop served = false

-- what a turn came to, once a connection's turn found this, and this request has its response
abbrev pub noted : Found → Option AdminRequest → AdminTurn → AdminTurn
noted found served turn = record {
  has_more = turn.has_more || is_more found;
  is_opening = turn.is_opening || is_open served;
  is_stopping = turn.is_stopping || is_stop served;
}

-- a request for the way into a room, as `relay_admin` says what is asked
abbrev pub admission_asked : Admission → Asked
admission_asked (admission.Open name) = admit name.now
admission_asked (admission.Close name) = exclude name.now

module _ {S : Type 0} where
  -- what a connection received, and the first bytes that its stream has left, begin with a head
  -- that is admitted as this request
  pub record Asks (remaining : S → Option (List ℕ)) (asked : AdminRequest)
      (c : AdminConnection S) : Type 0 where
    pub taken : List ℕ
    pub rest : Option (List ℕ)
    pub first : Consumes (remaining c.stream) rest taken
    pub head : BeginsWith (λ head. IsAdmitted head (request asked)) (c.request.bytes ++ taken)

  -- one of the connections asks for it
  abbrev pub SomeAsks : (S → Option (List ℕ)) → AdminRequest → List (AdminConnection S) → Type 0
  SomeAsks remaining asked connections = Any (Asks remaining asked) connections

  -- the connection at an index asks for what has its response now, if anything has
  abbrev pub AsksAt : (S → Option (List ℕ)) → ℕ → Option AdminRequest → List (AdminConnection S)
      → Type 0
  AsksAt remaining index (Some asked) connections =
      (c : AdminConnection S) × (slice_get connections index ≡ Some c) × Asks remaining asked c
  AsksAt remaining index None connections = ⊤

  -- one of them received bytes that begin with a head of which this holds
  abbrev pub SomeReceived : (RequestHead → Type 0) → List (AdminConnection S) → Type 0
  SomeReceived Says connections = Any (λ c. BeginsWith Says c.request.bytes) connections

  -- one of them received a head that is admitted as the request to forget the room of a name
  abbrev pub SomeForgets : List ℕ → List (AdminConnection S) → Type 0
  SomeForgets name connections =
      SomeReceived (λ head. IsAdmitted head (forget name)) connections

  -- or as the request that clients may enter a room, or may not
  abbrev pub SomeAdmits : Admission → List (AdminConnection S) → Type 0
  SomeAdmits asked connections =
      SomeReceived (λ head. IsAdmitted head (admission_asked asked)) connections

  -- or as the request for this visit
  abbrev pub SomeVisits : RoomVisit → List (AdminConnection S) → Type 0
  SomeVisits visit connections =
      Any (λ c. BeginsWith (AsksVisit visit c.request.bytes) c.request.bytes) connections

  -- The connection at an index asks this of a room: the whole request was received, and it is the
  -- one that the head makes with which the bytes received begin.
  pub record AsksRoomAt (index : ℕ) (asked : RoomRequest) (connections : List (AdminConnection S))
      : Type 0 where
    pub asker : AdminConnection S
    pub there : slice_get connections index ≡ Some asker
    pub whole : asked_by asker.request ≡ Some asked
    pub said : BeginsWith (Makes asked) asker.request.bytes

  -- only the connection at an index changed
  pub record OnlyAt (index : ℕ) (old new : List (AdminConnection S)) : Type 0 where
    pub many : length new ≡ length old
    pub before : take index new ≡ take index old
    pub behind : drop (index + 1) new ≡ drop (index + 1) old

  -- the connection at an index got a response whose text is as this says, and was sent a part of it
  pub record Answered (contents : S → Option (List ℕ)) (index : ℕ) (Says : List ℕ → Type 0)
      (old new : List (AdminConnection S)) : Type 0 where
    pub asker : AdminConnection S
    pub there : slice_get old index ≡ Some asker
    pub reply : String Global
    pub says : Says (string_bytes reply)
    pub told : AdminConnection S
    pub at : slice_get new index ≡ Some told
    pub tells : Tells contents (answered reply asker) told

  -- a place for one more connection: the oldest is gone if there are as many as may be
  abbrev pub with_place : List (AdminConnection S) → List (AdminConnection S)
  with_place connections =
      if nat_lt (length connections) MAX_CONNECTIONS then connections else drop 1 connections

  -- a connection stands behind the others; or, without memory, it is gone
  abbrev pub Holds : AdminConnection S → List (AdminConnection S) → List (AdminConnection S)
      → Type 0
  Holds connection old new =
      (new ≡ with_place old ++ connection ∷ []) ⊎ (new ≡ with_place old)

  -- nothing was received on it, and it has no response
  abbrev pub IsNew : AdminConnection S → Type 0
  IsNew c = (stream : S) × IsFresh stream c

  -- Connections that were held are as before, but for the oldest of them, which may be gone. Behind
  -- them are new ones.
  pub data Admits : List (AdminConnection S) → List (AdminConnection S) → Type 0 where
    none : (held : List (AdminConnection S)) → Admits held held
    one : (old between new : List (AdminConnection S)) (c : AdminConnection S) → Admits old between
        → IsNew c → Holds c between new → Admits old new

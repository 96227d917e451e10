-- The turns of the connections to the admin port, and the responses that they get there.
use Rattle.std.specs.Prelude.{◌≡◌, ℕ, ◌+◌, List, [], ◌∷◌, ◌++◌, take, slice_get, string_bytes}
use Rattle.std.specs.Prelude.{Option, Some, None, IsTrue, false}
use Rattle.std.specs.declared.alloc.Global.{Global}
use Rattle.std.specs.declared.string.String.{String}
use Rattle.relay_admin.specs.declared.answer.Ask.{Ask}
use Rattle.relay_admin.specs.declared.answer.Ask.TheVariants as ask
use Rattle.relay_admin.specs.declared.request.AdminRequest.{AdminRequest}
use Rattle.relay_operator.specs.Connection.{Tells, Turns, Waits, answered}
use Rattle.relay_operator.specs.Port.{noted}
use Rattle.relay_operator.specs.Response.{AnswersAsk}
use Rattle.relay_operator.specs.declared.admin_connection.AdminConnection.{AdminConnection}
use Rattle.relay_operator.specs.declared.admin_connection.Found.{Found}
use Rattle.relay_operator.specs.declared.admin_connection.Found.TheVariants.{Over}
use Rattle.relay_operator.specs.declared.admin_connection.Heard.{Heard}
use Rattle.relay_operator.specs.declared.admin_connection.Heard.TheVariants as heard
use Rattle.relay_operator.specs.declared.admin_port.AdminTurn.{AdminTurn}
use Rattle.relay_operator.specs.declared.admin_view.AdminView.{AdminView}
use Rattle.relay_operator.specs.declared.counters.Counters.{Counters}

-- the request that an answer accepts, if that asks nothing of a room
abbrev pub request_in : Ask → Option AdminRequest
request_in (ask.Request r) = Some r
request_in answer = None

-- what the turn of a connection found by what was heard, and the request that has its response now
abbrev pub Finds : Heard → Found → Option AdminRequest → Type 0
Finds (heard.Found f) found served = (found ≡ f) × (served ≡ None)
Finds (heard.Answer answer) found served = served ≡ request_in answer

-- before the first turn
abbrev pub nothing_noted : AdminTurn
nothing_noted = record { has_more = false; is_opening = false; is_stopping = false }

module _ {S : Type 0} where
  -- what was heard of a connection is answered, if it is to be: it has a response to that, and was
  -- sent a part of it
  abbrev pub Responds : (S → Option (List ℕ)) → AdminView → Counters → Heard → AdminConnection S
      → AdminConnection S → Type 0
  Responds contents view counters (heard.Found found) old new = new ≡ old
  Responds contents view counters (heard.Answer answer) old new =
      (reply : String Global) × AnswersAsk view counters answer (string_bytes reply)
      × Tells contents (answered reply old) new

  -- A connection had its turn, and has the response to what was heard. The turn found this, and
  -- this request has its response now.
  pub record Serves (remaining contents : S → Option (List ℕ)) (view : AdminView)
      (counters : Counters) (found : Found) (served : Option AdminRequest)
      (old new : AdminConnection S) : Type 0 where
    pub what : Heard
    pub between : AdminConnection S
    pub finds : Finds what found served
    pub turns : Turns remaining contents what old between
    pub responds : Responds contents view counters what between new

  -- the same of the connection at an index, with what its turn returned
  pub record ServesAt (remaining contents : S → Option (List ℕ)) (view : AdminView)
      (counters : Counters) (index : ℕ) (result : Found × Option AdminRequest)
      (old new : List (AdminConnection S)) : Type 0 where
    pub asker : AdminConnection S
    pub there : slice_get old index ≡ Some asker
    pub turned : AdminConnection S
    pub at : slice_get new index ≡ Some turned
    pub serves : Serves remaining contents view counters result.0 result.1 asker turned

  -- the connection at an index does not wait for what comes of its request
  abbrev pub WaitsNotAt : ℕ → List (AdminConnection S) → Type 0
  WaitsNotAt index connections =
      (c : AdminConnection S) → slice_get connections index ≡ Some c → Waits c → ⊥

  -- Each connection had its turn, one behind the other, and what was found is noted. One that is
  -- over is gone, but none that waits for what comes of its request.
  pub data ServesAll (remaining contents : S → Option (List ℕ)) (view : AdminView)
      (counters : Counters)
      : AdminTurn → List (AdminConnection S) → List (AdminConnection S) → Type 0 where
    none : ServesAll remaining contents view counters nothing_noted [] []
    stays : (turn : AdminTurn) (found : Found) (served : Option AdminRequest)
        (old new : List (AdminConnection S)) (c turned : AdminConnection S)
        → ServesAll remaining contents view counters turn old new
        → Serves remaining contents view counters found served c turned
        → ServesAll remaining contents view counters (noted found served turn) (old ++ c ∷ [])
        (new ++ turned ∷ [])
    goes : (turn : AdminTurn) (served : Option AdminRequest) (old new : List (AdminConnection S))
        (c : AdminConnection S) → ServesAll remaining contents view counters turn old new
        → (Waits c → ⊥)
        → ServesAll remaining contents view counters (noted Over served turn) (old ++ c ∷ []) new

  -- a turn of all connections says what was noted; it may have more to do than that
  pub record ServesEach (remaining contents : S → Option (List ℕ)) (view : AdminView)
      (counters : Counters) (turn : AdminTurn) (old new : List (AdminConnection S)) : Type 0 where
    pub noted : AdminTurn
    pub serves : ServesAll remaining contents view counters noted old new
    pub more : IsTrue noted.has_more → IsTrue turn.has_more
    pub opening : turn.is_opening ≡ noted.is_opening
    pub stopping : turn.is_stopping ≡ noted.is_stopping

  -- the connections before the one whose turn is next, once one had its turn
  abbrev pub kept_before : Found → ℕ → List (AdminConnection S) → List (AdminConnection S)
  kept_before Over index connections = take index connections
  kept_before found index connections = take (index + 1) connections

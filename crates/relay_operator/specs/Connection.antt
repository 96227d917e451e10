-- A connection to the admin port: the request that it receives, and how much of its response was
-- sent.
use Rattle.std.specs.Prelude.{◌≡◌, ◌≢◌, ◌⊎◌, ⊤, ℕ, Bool, List, [], ◌++◌, drop, Option, Some, None}
use Rattle.std.specs.Prelude.{IsSome, string_bytes}
use Rattle.std.specs.Io.KnownBytes.{Appends, Consumes}
use Rattle.std.specs.declared.io.ErrorKind.{ErrorKind}
use Rattle.std.specs.declared.io.ErrorKind.TheVariants.{WouldBlock, Interrupted}
use Rattle.std.specs.declared.alloc.Global.{Global}
use Rattle.std.specs.declared.string.String.{String}
use Rattle.relay_admin.specs.declared.answer.Ask.{Ask}
use Rattle.relay_admin.specs.declared.answer.Ask.TheVariants.{More}
use Rattle.relay_operator.specs.Request.{Answers, Notes, Request, asked_by, served, unread}
use Rattle.relay_operator.specs.RoomRequest.{is_some_of}
use Rattle.relay_operator.specs.declared.admin_connection.AdminConnection.{AdminConnection}
use Rattle.relay_operator.specs.declared.admin_connection.Found.TheVariants.{Nothing}
use Rattle.relay_operator.specs.declared.admin_connection.Heard.{Heard}
use Rattle.relay_operator.specs.declared.admin_connection.Heard.TheVariants as heard
use Rattle.relay_operator.specs.declared.admin_connection.Moved.{Moved}
use Rattle.relay_operator.specs.declared.admin_connection.Moved.TheVariants as moved
use Rattle.relay_operator.specs.declared.room_request.Kind.{Kind}
use Rattle.relay_operator.specs.declared.room_request.RoomRequest.{RoomRequest}

-- what a read or a write that fails comes to
abbrev pub moved_after : ErrorKind → Moved
moved_after WouldBlock = moved.Nothing
moved_after Interrupted = moved.Again
moved_after kind = moved.Failed

-- a read that moved no bytes changed nothing of a request
abbrev pub ChangesIfMoved : Moved → Request → Request → Type 0
ChangesIfMoved (moved.Bytes len) old new = ⊤
ChangesIfMoved other old new = new ≡ old

-- a request is as it was, or more of it was received, and that is still only a part
abbrev pub IsUnfinished : Request → Request → Type 0
IsUnfinished old new = (new ≡ old) ⊎ Answers new.bytes More

-- the rest of a response of which so many bytes were sent
abbrev pub rest_of : Option (String Global) → ℕ → List ℕ
rest_of (Some reply) sent = drop sent (string_bytes reply)
rest_of None sent = []

module _ {S : Type 0} where
  -- nothing was received, and there is no response
  pub record IsFresh (given : S) (c : AdminConnection S) : Type 0 where
    pub stream : c.stream ≡ given
    pub request : c.request ≡ unread
    pub reply : c.reply ≡ None

  -- whether it asks for something of a kind, of which all was received
  abbrev pub asks_for : Kind → AdminConnection S → Bool
  asks_for kind c = is_some_of kind (asked_by c.request)

  -- the part of its response that is still to be sent
  abbrev pub unsent : AdminConnection S → List ℕ
  unsent c = rest_of c.reply c.sent

  -- it has this response, of which nothing was sent, and asks nothing any more
  abbrev pub answered : String Global → AdminConnection S → AdminConnection S
  answered reply c = record c { request = served c.request; reply = Some reply; sent = 0 }

  -- only the stream changed
  abbrev pub SameButStream : AdminConnection S → AdminConnection S → Type 0
  SameButStream old new = new ≡ record old { stream = new.stream }

  -- It took the first bytes that its stream had left, and they stand behind what was received
  -- before. What it asks and its response are as before.
  pub record Receives (remaining : S → Option (List ℕ)) (old new : AdminConnection S)
      : Type 0 where
    pub taken : List ℕ
    pub first : Consumes (remaining old.stream) (remaining new.stream) taken
    pub received : new.request.bytes ≡ old.request.bytes ++ taken
    pub asked : new.request.asked ≡ old.request.asked
    pub reply : new.reply ≡ old.reply
    pub sent : new.sent ≡ old.sent

  -- It wrote the next part of its response behind what its stream held, and has the rest still to
  -- send. All else is as before.
  pub record Sends (contents : S → Option (List ℕ)) (old new : AdminConnection S) : Type 0 where
    pub part : List ℕ
    pub next : unsent old ≡ part ++ unsent new
    pub wrote : Appends (contents old.stream) (contents new.stream) part
    pub request : new.request ≡ old.request
    pub reply : new.reply ≡ old.reply

  -- It sent a part of its response. Once all of it was sent it may also have read what the other
  -- side still sends.
  pub record Tells (contents : S → Option (List ℕ)) (old new : AdminConnection S) : Type 0 where
    pub told : AdminConnection S
    pub sends : Sends contents old told
    pub drains : SameButStream told new
    pub waits : unsent told ≢ [] → new ≡ told

  -- It received bytes, and noted what all of them ask of a room. Any other answer to them is given
  -- back.
  pub record Hears (remaining : S → Option (List ℕ)) (given : Option Ask)
      (old new : AdminConnection S) : Type 0 where
    pub read : AdminConnection S
    pub receives : Receives remaining old read
    pub notes : Notes given read.request new.request
    pub same : new ≡ record read { request = new.request }

  -- what was heard of a connection that asked nothing before: an answer to give; or else that it
  -- received a part of a request, or asks something of a room now
  abbrev pub HearsSo : (S → Option (List ℕ)) → Heard → AdminConnection S → AdminConnection S
      → Type 0
  HearsSo remaining (heard.Answer answer) old new = Hears remaining (Some answer) old new
  HearsSo remaining (heard.Found found) old new =
      (Receives remaining old new × IsUnfinished old.request new.request)
      ⊎ Hears remaining None old new

  -- it asks something of a room, all of which was received, and waits for what comes of it
  abbrev pub Waits : AdminConnection S → Type 0
  Waits c = (c.reply ≡ None) × IsSome (asked_by c.request)

  -- The turn of a connection. If it has its response, a part of that was sent. If it waits for what
  -- comes of its request, it is as it was. If its request has a body, more of that was received.
  -- Else it was heard.
  abbrev pub TurnsBy : Option (String Global) → Option RoomRequest → Option RoomRequest
      → (S → Option (List ℕ)) → (S → Option (List ℕ)) → Heard → AdminConnection S
      → AdminConnection S → Type 0
  TurnsBy (Some reply) whole asked remaining contents (heard.Found found) old new =
      Tells contents old new
  TurnsBy None (Some request) asked remaining contents (heard.Found Nothing) old new = new ≡ old
  TurnsBy None None (Some request) remaining contents (heard.Found found) old new =
      Receives remaining old new
  TurnsBy None None None remaining contents what old new = HearsSo remaining what old new
  TurnsBy reply whole asked remaining contents what old new = ⊥

  abbrev pub Turns : (S → Option (List ℕ)) → (S → Option (List ℕ)) → Heard → AdminConnection S
      → AdminConnection S → Type 0
  Turns remaining contents what old new =
      TurnsBy old.reply (asked_by old.request) old.request.asked remaining contents what old new

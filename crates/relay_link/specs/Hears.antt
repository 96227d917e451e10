-- The texts that a link hears in a turn: the text that it reads, which it passes to the hub in the
-- same turn.
use Rattle.std.specs.Prelude.{◌≡◌, ◌⊎◌, ⊤, ℕ, Bool, true, false, zero, suc, length, sum_by, List}
use Rattle.std.specs.Prelude.{[], ◌∷◌, ◌++◌, if◌then◌else◌, Option, None, Some, option_and_then}
use Rattle.std.specs.Prelude.{Result, Ok, Err}
use Rattle.relay_hub.specs.Queries.{may_hear}
use Rattle.relay_hub.specs.State.{State as Hub, session_of}
use Rattle.relay_hub.specs.declared.event.Event.{Event}
use Rattle.relay_hub.specs.declared.event.Event.TheVariants.{Receive}
use Rattle.tungstenite.specs.Socket.{Socket, Reads, IsFresh}
use Rattle.tungstenite.specs.declared.error.Error.{Error}
use Rattle.tungstenite.specs.declared.message.Message.{Message}
use Rattle.tungstenite.specs.declared.message.Message.TheVariants.{Text, Binary, Close}
use Rattle.websocket.specs.declared.protocol.config.Role.TheVariants.{Server}
use Rattle.relay_link.specs.Stream.{stream_of, is_blocked}
use Rattle.relay_link.specs.declared.corked_writer.CorkedWriter.{CorkedWriter}
use Rattle.relay_link.specs.declared.state.State.{State}
use Rattle.relay_link.specs.declared.state.State.TheVariants as state

-- the text that an event passes to the hub, if it passes one
abbrev pub received_by : Event → List (List ℕ)
received_by (Receive s text) = text ∷ []
received_by event = []

-- the texts that events pass to the hub, in order
abbrev pub received : List Event → List (List ℕ)
received [] = []
received (event ∷ events) = received_by event ++ received events

-- from one list of events to another, these texts were passed to the hub
abbrev pub Passes : List Event → List Event → List (List ℕ) → Type 0
Passes before after texts = received after ≡ received before ++ texts

-- The number that a link may read of so many messages: none unless the hub may hear its session.
abbrev pub allowed_reads : Hub → Option ℕ → ℕ → ℕ
allowed_reads hub session most =
    if may_hear (option_and_then (session_of hub) session) then most else 0

-- how many bytes the texts have that events pass to the hub
abbrev pub received_len : Event → ℕ
received_len (Receive s text) = length text
received_len event = 0

abbrev pub received_bytes : List Event → ℕ
received_bytes events = sum_by received_len events

-- the text of a message, if there is one and it is a text message (RFC 6455, section 5.6)
abbrev pub text_of : Option Message → List (List ℕ)
text_of (Some (Text words)) = words ∷ []
text_of _ = []

-- the message that a read found, if it found one
abbrev pub message_of : Result Message Error → Option Message
message_of (Ok message) = Some message
message_of (Err error) = None

-- whether a message ends a link: a close, or a binary message, which a relay does not take
abbrev pub ends_link : Option Message → Bool
ends_link (Some (Close frame)) = true
ends_link (Some (Binary bytes)) = true
ends_link _ = false

module _ {S : Type 0} where
  -- the second socket reads on where the first would: what was read before and is not yet part of a
  -- message is the same
  pub record ReadsOn (old new : Socket (CorkedWriter S)) : Type 0 where
    pub conn : new.conn ≡ old.conn
    pub input : new.input ≡ old.input

  -- The socket read once, with whatever outcome, and found this message, or none. `Reads` says
  -- which message that is: the next one in the bytes that were read before and those that the
  -- stream gave, frame after frame.
  abbrev pub ReadsOnce : (S → Option (List ℕ)) → Socket (CorkedWriter S)
      → Socket (CorkedWriter S) → Option Message → Type 0
  ReadsOnce remaining old new found =
      (outcome : Result Message Error) × Reads (λ w. remaining (stream_of w)) old new outcome
      × (found ≡ message_of outcome)

  -- It read once, and found these texts: that of the message, if it is a text message. It found no
  -- message that ends a link.
  abbrev pub Finds : (S → Option (List ℕ)) → Socket (CorkedWriter S) → Socket (CorkedWriter S)
      → List (List ℕ) → Type 0
  Finds remaining old new texts =
      (found : Option Message) × ReadsOnce remaining old new found
      × (ends_link found ≡ false) × (texts ≡ text_of found)

  -- it read nothing
  abbrev pub FindsNothing : Socket (CorkedWriter S) → Socket (CorkedWriter S) → List (List ℕ)
      → Type 0
  FindsNothing old new texts = (new ≡ old) × (texts ≡ [])

  -- The socket of an open link read once, or not at all, and the link passes on the texts that the
  -- read found: no text is lost or made.
  abbrev pub HearsOnce : (S → Option (List ℕ)) → Socket (CorkedWriter S) → Socket (CorkedWriter S)
      → List (List ℕ) → Type 0
  HearsOnce remaining old new texts = FindsNothing old new texts ⊎ Finds remaining old new texts

  -- it read at most so many messages, one at most, and the link passes on these texts
  abbrev pub Hears : (S → Option (List ℕ)) → ℕ → Socket (CorkedWriter S) → Socket (CorkedWriter S)
      → List (List ℕ) → Type 0
  Hears remaining zero old new texts = FindsNothing old new texts
  Hears remaining (suc n) old new texts = HearsOnce remaining old new texts

  -- The same of a link that stays open. It reads whenever it may: only a stream that takes no
  -- output keeps it from that.
  abbrev pub HearsUnlessBlocked : (S → Option (List ℕ)) → ℕ → Socket (CorkedWriter S)
      → Socket (CorkedWriter S) → List (List ℕ) → Type 0
  HearsUnlessBlocked remaining zero old new texts = FindsNothing old new texts
  HearsUnlessBlocked remaining (suc n) old new texts =
      ((is_blocked old.stream ≡ true) × FindsNothing old new texts) ⊎ Finds remaining old new texts

  -- from one list of events to another, the texts were passed to the hub that the link passes on
  -- after at most so many reads: these, and no others
  pub record PassesOn (remaining : S → Option (List ℕ)) (most : ℕ)
      (socket : Socket (CorkedWriter S)) (before after : List Event) : Type 0 where
    pub texts : List (List ℕ)
    pub passes : Passes before after texts
    pub heard : Socket (CorkedWriter S)
    pub hears : Hears remaining most socket heard texts

  -- the same of a link that sends first what waits
  pub record SendsAndPassesOn (remaining : S → Option (List ℕ)) (most : ℕ)
      (socket : Socket (CorkedWriter S)) (before after : List Event) : Type 0 where
    pub ready : Socket (CorkedWriter S)
    pub reads_on : ReadsOn socket ready
    pub passes_on : PassesOn remaining most ready before after

  -- a link that is still open will go on from there
  abbrev pub GoesOn : Socket (CorkedWriter S) → State S → Type 0
  GoesOn heard (state.Open socket s) = ReadsOn heard socket
  GoesOn heard _ = ⊤

  -- the socket of an open link has read nothing yet
  abbrev pub HasReadNothing : Socket (CorkedWriter S) → Type 0
  HasReadNothing socket = IsFresh socket socket.stream Server

  -- so has that of a link that became open
  abbrev pub BeginsFresh : State S → Type 0
  BeginsFresh (state.Open socket s) = HasReadNothing socket
  BeginsFresh _ = ⊤

  -- An open link reads on where it stopped, passes the texts that it reads to the hub, and no
  -- others, in the order in which it reads them, and stops where its next turn goes on.
  pub record ReadsTexts (remaining : S → Option (List ℕ)) (most : ℕ)
      (socket : Socket (CorkedWriter S)) (new : State S) (before after : List Event) : Type 0 where
    pub sends : SendsAndPassesOn remaining most socket before after
    pub goes_on : GoesOn sends.passes_on.heard new

  -- The same of any link. One that is open reads nothing if the hub before the turn may not hear
  -- its session; one that is not open passes no text.
  abbrev pub PassesTexts : (S → Option (List ℕ)) → ℕ → Hub → State S → State S → List Event
      → List Event → Type 0
  PassesTexts remaining most hub (state.Open socket s) new before after =
      ReadsTexts remaining (allowed_reads hub (Some s) most) socket new before after
  PassesTexts remaining most hub _ new before after = Passes before after [] × BeginsFresh new

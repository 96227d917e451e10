-- The part of its reply to a handshake that a link writes.
use Rattle.std.specs.Prelude.{◌≡◌, ℕ, List, ◌++◌, Option, Some, None, ⊤, string_bytes, option_map}
use Rattle.std.specs.Io.KnownBytes.{Appends, Consumes}
use Rattle.relay_shake.specs.Shaken.{AnswersHead, AnswersNoHead}
use Rattle.relay_shake.specs.declared.answer.Shake.{Shake}
use Rattle.relay_shake.specs.declared.answer.Shake.TheVariants.{More, Accept, Refuse}
use Rattle.relay_shake.specs.Replies.{refusal_of}
use Rattle.relay_link.specs.EntryRules.{Denials, status_of, reply_to}
use Rattle.relay_link.specs.Hears.{HasReadNothing}
use Rattle.relay_link.specs.Stream.{stream_of, written}
use Rattle.relay_link.specs.declared.entry_rules.Denial.{Denial}
use Rattle.relay_link.specs.declared.handshake_reply.Verdict.{Verdict}
use Rattle.relay_link.specs.declared.handshake_reply.Verdict.TheVariants.{Entered, Refused}
use Rattle.relay_link.specs.declared.state.State.{State}
use Rattle.relay_link.specs.declared.state.State.TheVariants.{Head, Replying, Open}

-- The bytes of the reply to a good handshake, and what it reports. Whoever the rules deny is told
-- so. Any other gets the reply of the handshake if the hub opened a session, and 503 if it did not.
abbrev pub IsReplyBy : Option Denial → List ℕ → Verdict → List ℕ → Type 0
IsReplyBy None reply (Entered s) bytes = bytes ≡ reply
IsReplyBy None reply (Refused status) bytes = (status ≡ 503) × (bytes ≡ refusal_of 503)
IsReplyBy (Some reason) reply (Entered s) bytes = ⊥
IsReplyBy (Some reason) reply (Refused status) bytes =
    (status ≡ status_of reason) × (bytes ≡ reply_to reason)

-- the same of the reply to any answer
abbrev pub IsReply : Denials → Shake → Verdict → List ℕ → Type 0
IsReply denied (Accept room access origin reply) verdict bytes =
    IsReplyBy (denied (string_bytes room) access (option_map string_bytes origin)) reply.items
    verdict bytes
IsReply denied (Refuse status reply) (Refused given) bytes =
    (given ≡ status) × (bytes ≡ reply.items)
IsReply denied (Refuse status reply) (Entered s) bytes = ⊥
IsReply denied More verdict bytes = ⊥

module _ {S : Type 0} where
  -- A link wrote a front part of the reply behind what its stream held before, and keeps the rest.
  -- If it is open, it wrote all of the reply, and its WebSocket has read nothing and has nothing to
  -- send.
  abbrev pub WritesReply : (S → Option (List ℕ)) → Option (List ℕ) → Verdict → List ℕ → State S
      → Type 0
  WritesReply contents before verdict reply (Replying stream kept) =
      (sent : List ℕ) × (reply ≡ sent ++ kept.rest.items)
      × Appends before (written contents stream) sent × (kept.verdict ≡ verdict)
  WritesReply contents before verdict reply (Open socket s) =
      Appends before (written contents socket.stream) reply × (verdict ≡ Entered s)
      × HasReadNothing socket
  WritesReply contents before verdict reply _ = ⊤

  -- a reply to the answer, which may have been written in part
  pub record RepliesTo (contents : S → Option (List ℕ)) (denied : Denials)
      (before : Option (List ℕ)) (answer : Shake) (new : State S) : Type 0 where
    pub verdict : Verdict
    pub reply : List ℕ
    pub is : IsReply denied answer verdict reply
    pub writes : WritesReply contents before verdict reply new

  -- The reply to a head: by the definition of the handshake, the answer to what was received in
  -- earlier turns and what one read took then.
  pub record RepliesToHead (contents : S → Option (List ℕ)) (denied : Denials)
      (received : List ℕ) (left : Option (List ℕ)) (new : State S) : Type 0 where
    pub taken : List ℕ
    pub rest : Option (List ℕ)
    pub first : Consumes left rest taken
    pub answer : Shake
    pub head : AnswersHead (received ++ taken) answer
    pub no_head : AnswersNoHead (received ++ taken) answer
    pub before : Option (List ℕ)
    pub replies : RepliesTo contents denied before answer new

  -- a link that replies, or that is open, has a reply; a link that is gone has no stream to speak
  -- of
  abbrev pub IfReplies : State S → Type 0 → Type 0
  IfReplies (Replying stream kept) P = P
  IfReplies (Open socket s) P = P
  IfReplies _ P = ⊤

  -- The part of a reply that a turn writes. A link that waits for its head begins one, and a link
  -- that replies goes on with what it kept.
  abbrev pub Replies : (S → Option (List ℕ)) → (S → Option (List ℕ)) → Denials → State S
      → State S → Type 0
  Replies remaining contents denied (Head stream bytes) new =
      IfReplies new (RepliesToHead contents denied bytes.items (remaining (stream_of stream)) new)
  Replies remaining contents denied (Replying stream kept) new =
      WritesReply contents (written contents stream) kept.verdict kept.rest.items new
  Replies remaining contents denied _ new = ⊤

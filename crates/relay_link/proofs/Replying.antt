-- The part of a reply that a link wrote, and the part that it keeps.
use Rattle.std.proofs.Common.{◌≡◌, ℕ, false, string_bytes, List, [], ◌++◌, take, drop}
use Rattle.std.proofs.Common.{Option, Some, None, option_map, Result, is_ok, is_err, refl, sym}
use Rattle.std.proofs.Common.{if◌then◌else◌, subst, ap}
use Rattle.std.proofs.Common.{◌∙◌, append_assoc, append-nil, Vec, Global, String}
use Rattle.std.proofs.KnownBytes.{Appends-trans, Appends-nil}
use Rattle.std.proofs.lemmas.List.{take-append-drop}
use Rattle.std.specs.Io.KnownBytes.{Appends, Keeps, Consumes}
use Rattle.tungstenite.specs.Socket.{Socket, IsFresh}
use Rattle.websocket.specs.declared.protocol.config.Role.TheVariants.{Server}
use Rattle.relay_shake.specs.Shaken.{AnswersHead, AnswersNoHead}
use Rattle.relay_shake.specs.Replies.{refusal_of}
use Rattle.relay_shake.specs.declared.answer.Shake.{Shake}
use Rattle.relay_shake.specs.declared.answer.Shake.TheVariants.{More, Accept, Refuse}
use Rattle.relay_access.specs.declared.access.Access.{Access}
use Rattle.relay_hub.specs.State.{State as Hub}
use Rattle.relay_hub.specs.declared.event.Event.{Event}
use Rattle.relay_link.specs.EntryRules.{Denials, status_of, reply_to}
use Rattle.relay_link.specs.Hears.{Passes, HasReadNothing, BeginsFresh, PassesTexts}
use Rattle.relay_link.specs.Replies.{IsReply, IsReplyBy, WritesReply, RepliesTo, RepliesToHead}
use Rattle.relay_link.specs.Replies.{IfReplies, Replies}
use Rattle.relay_link.specs.Stream.{stream_of, written}
use Rattle.relay_link.specs.declared.corked_writer.CorkedWriter.{CorkedWriter}
use Rattle.relay_link.specs.declared.entry_rules.Denial.{Denial}
use Rattle.relay_link.specs.declared.handshake_reply.HandshakeReply.{HandshakeReply}
use Rattle.relay_link.specs.declared.handshake_reply.Verdict.{Verdict}
use Rattle.relay_link.specs.declared.handshake_reply.Verdict.TheVariants.{Entered, Refused}
use Rattle.relay_link.specs.declared.state.State.{State}
use Rattle.relay_link.specs.declared.state.State.TheVariants.{Head, Replying, Open, Closing, Gone}
use Rattle.relay_link.proofs.Framing.{appends_kept}
use Rattle.relay_link.proofs.Heads.{extended}

-- ---- a reply that is being written: a front part was sent, and the rest is kept

abbrev pub IsSent : List ℕ → List ℕ → Option (List ℕ) → Option (List ℕ) → Type 0
IsSent reply rest before now = (sent : List ℕ) × (reply ≡ sent ++ rest) × Appends before now sent

-- nothing of it yet
pub sent_none : (reply : List ℕ) (before : Option (List ℕ)) → IsSent reply reply before before
sent_none reply before = ([], refl, Appends-nil before)

-- a write took some of the rest
pub sent_more : (reply rest : List ℕ) (n : ℕ) (before now next : Option (List ℕ))
    → IsSent reply rest before now → Appends now next (take n rest)
    → IsSent reply (drop n rest) before next
sent_more reply rest n before now next (sent, is, appends) took = (
  sent ++ take n rest,
  is ∙ ap (λ l. sent ++ l) (sym (take-append-drop n rest))
      ∙ sym (append_assoc sent (take n rest) (drop n rest)),
  Appends-trans before now next sent (take n rest) appends took,
)

-- a call took nothing
pub sent_kept : (reply rest : List ℕ) (before now next : Option (List ℕ))
    → IsSent reply rest before now → Keeps now next → IsSent reply rest before next
sent_kept reply rest before now next (sent, is, appends) kept = (
  sent,
  is,
  subst (Appends before next) (append-nil sent)
      (Appends-trans before now next sent [] appends (appends_kept now next kept)),
)

-- all of it
pub sent_all : (reply : List ℕ) (before now : Option (List ℕ)) → IsSent reply [] before now
    → Appends before now reply
sent_all reply before now (sent, is, appends) =
    subst (Appends before now) (sym (is ∙ append-nil sent)) appends

module _ {S : Type 0} (contents : S → Option (List ℕ)) where
  -- the reply was written, and the link is open
  pub writes_all : (reply : List ℕ) (before : Option (List ℕ)) (now : CorkedWriter S)
      (socket : Socket (CorkedWriter S)) (s : ℕ) (verdict : Verdict)
      → IsSent reply [] before (written contents now) → IsFresh socket now Server
      → verdict ≡ Entered s → WritesReply contents before verdict reply (Open socket s)
  writes_all reply before now socket s verdict sent fresh is =
      let all = sent_all reply before (written contents now) sent in
      let read_nothing : HasReadNothing socket = record {
        on_stream = refl;
        nothing_read = fresh.nothing_read;
        nothing_waits = fresh.nothing_waits;
        has_role = fresh.has_role;
        is_active = fresh.is_active;
        no_fragments = fresh.no_fragments;
      } in (
        subst (λ w. Appends before (written contents w) reply) (sym fresh.on_stream) all,
        is,
        read_nothing,
      )

  -- the reply of a head that is accepted
  pub replies_open : (denied : Denials) (before : Option (List ℕ)) (room : String Global)
      (access : Access) (origin : Option (String Global)) (reply : Vec ℕ Global) (s : ℕ)
      (state : State S)
      → denied (string_bytes room) access (option_map string_bytes origin) ≡ None
      → WritesReply contents before (Entered s) reply.items state
      → RepliesTo contents denied before (Accept room access origin reply) state
  replies_open denied before room access origin reply s state enters writes =
      record { verdict = Entered s; reply = reply.items; is = rw enters refl; writes = writes }

  -- of one for which the hub opened no session
  unserved : (denied : Denials) (before : Option (List ℕ)) (room : String Global)
      (access : Access) (origin : Option (String Global)) (reply : Vec ℕ Global)
      (refused : List ℕ) (state : State S)
      → denied (string_bytes room) access (option_map string_bytes origin) ≡ None
      → refused ≡ refusal_of 503
      → WritesReply contents before (Refused 503) refused state
      → RepliesTo contents denied before (Accept room access origin reply) state
  unserved denied before room access origin reply refused state enters is writes =
      record { verdict = Refused 503; reply = refused; is = rw enters (refl, is); writes = writes }

  pub replies_refused : (denied : Denials) (before : Option (List ℕ)) (room : String Global)
      (access : Access) (origin : Option (String Global)) (reply refused : Vec ℕ Global)
      (state : State S)
      → denied (string_bytes room) access (option_map string_bytes origin) ≡ None
      → refused.items ≡ refusal_of 503
      → WritesReply contents before (Refused 503) refused.items state
      → RepliesTo contents denied before (Accept room access origin reply) state
  replies_refused denied before room access origin reply refused state enters is writes =
      unserved denied before room access origin reply refused.items state enters is writes

  -- and of one that the rules deny
  pub replies_denied : (denied : Denials) (before : Option (List ℕ)) (room : String Global)
      (access : Access) (origin : Option (String Global)) (reply : Vec ℕ Global)
      (reason : Denial) (state : State S)
      → denied (string_bytes room) access (option_map string_bytes origin) ≡ Some reason
      → WritesReply contents before (Refused (status_of reason)) (reply_to reason) state
      → RepliesTo contents denied before (Accept room access origin reply) state
  replies_denied denied before room access origin reply reason state is writes = record {
    verdict = Refused (status_of reason);
    reply = reply_to reason;
    is = rw is (refl, refl);
    writes = writes;
  }

  -- the reply of a head that is refused
  pub replies_refuse : (denied : Denials) (before : Option (List ℕ)) (status : ℕ)
      (reply : Vec ℕ Global) (state : State S)
      → WritesReply contents before (Refused status) reply.items state
      → RepliesTo contents denied before (Refuse status reply) state
  replies_refuse denied before status reply state writes =
      record { verdict = Refused status; reply = reply.items; is = (refl, refl); writes = writes }

  -- the stream is gone
  pub replies_gone : (denied : Denials) (before : Option (List ℕ)) (room : String Global)
      (access : Access) (origin : Option (String Global)) (reply : Vec ℕ Global) (state : State S)
      → denied (string_bytes room) access (option_map string_bytes origin) ≡ None → state ≡ Gone
      → RepliesTo contents denied before (Accept room access origin reply) state
  replies_gone denied before room access origin reply state enters gone =
      rw gone
      (unserved denied before room access origin reply (refusal_of 503) Gone enters refl tt)

  -- two rules that deny the same for the same reason
  module _ (denied other : Denials) (same : (room : List ℕ) (access : Access)
      (origin : Option (List ℕ)) → denied room access origin ≡ other room access origin) where
    is_reply : (answer : Shake) (verdict : Verdict) (bytes : List ℕ)
        → IsReply denied answer verdict bytes → IsReply other answer verdict bytes
    is_reply (Accept room access origin reply) verdict bytes is =
        subst (λ reason. IsReplyBy reason reply.items verdict bytes)
        (same (string_bytes room) access (option_map string_bytes origin)) is
    is_reply (Refuse status reply) (Refused given) bytes is = is
    is_reply (Refuse status reply) (Entered s) bytes is = is
    is_reply More verdict bytes is = is

    replies_to : {before : Option (List ℕ)} {answer : Shake} {new : State S}
        → RepliesTo contents denied before answer new → RepliesTo contents other before answer new
    replies_to replies = record {
      verdict = replies.verdict;
      reply = replies.reply;
      is = is_reply _ replies.verdict replies.reply replies.is;
      writes = replies.writes;
    }

    replies_to_head : {received : List ℕ} {left : Option (List ℕ)} {new : State S}
        → RepliesToHead contents denied received left new
        → RepliesToHead contents other received left new
    replies_to_head replies = record {
      taken = replies.taken;
      rest = replies.rest;
      first = replies.first;
      answer = replies.answer;
      head = replies.head;
      no_head = replies.no_head;
      before = replies.before;
      replies = replies_to replies.replies;
    }

    pub replies_alike : (remaining : S → Option (List ℕ)) (old new : State S)
        → Replies remaining contents denied old new → Replies remaining contents other old new
    replies_alike remaining (Head stream bytes) (Replying other kept) replies =
        replies_to_head replies
    replies_alike remaining (Head stream bytes) (Open socket s) replies = replies_to_head replies
    replies_alike remaining (Head stream bytes) (Head other received) replies = tt
    replies_alike remaining (Head stream bytes) (Closing socket left) replies = tt
    replies_alike remaining (Head stream bytes) Gone replies = tt
    replies_alike remaining (Replying stream kept) new replies = replies
    replies_alike remaining (Open socket s) new replies = replies
    replies_alike remaining (Closing socket left) new replies = replies
    replies_alike remaining Gone new replies = replies

module _ {S : Type 0} (remaining contents : S → Option (List ℕ)) (denied : Denials) where
  -- a turn that changes nothing
  unchanged : (state : State S) → Replies remaining contents denied state state
  unchanged (Head stream bytes) = tt
  unchanged (Replying stream kept) = ([], refl, Appends-nil (written contents stream), refl)
  unchanged (Open socket s) = tt
  unchanged (Closing socket left) = tt
  unchanged Gone = tt

  pub replies_unchanged : (old new : State S) → new ≡ old
      → Replies remaining contents denied old new
  replies_unchanged old new same =
      subst (Replies remaining contents denied old) (sym same) (unchanged old)

  -- ---- a link that became open has read nothing

  fresh_writes : (before : Option (List ℕ)) (verdict : Verdict) (reply : List ℕ) (state : State S)
      → WritesReply contents before verdict reply state → BeginsFresh state
  fresh_writes before verdict reply (Open socket s) writes = writes.2
  fresh_writes before verdict reply (Head stream bytes) writes = tt
  fresh_writes before verdict reply (Replying stream kept) writes = tt
  fresh_writes before verdict reply (Closing socket left) writes = tt
  fresh_writes before verdict reply Gone writes = tt

  pub passes_replying : (most : ℕ) (hub : Hub) (stream : CorkedWriter S) (kept : HandshakeReply)
      (new : State S) (before after : List Event) → Passes before after []
      → WritesReply contents (written contents stream) kept.verdict kept.rest.items new
      → PassesTexts remaining most hub (Replying stream kept) new before after
  passes_replying most hub stream kept new before after passes writes =
      (passes, fresh_writes (written contents stream) kept.verdict kept.rest.items new writes)

  fresh_head : (stream : CorkedWriter S) (bytes : Vec ℕ Global) (state : State S)
      → Replies remaining contents denied (Head stream bytes) state → BeginsFresh state
  fresh_head stream bytes (Open socket s) replies =
      let to = replies.replies in
      fresh_writes replies.before to.verdict to.reply (Open socket s) to.writes
  fresh_head stream bytes (Head other received) replies = tt
  fresh_head stream bytes (Replying other kept) replies = tt
  fresh_head stream bytes (Closing socket left) replies = tt
  fresh_head stream bytes Gone replies = tt

  pub passes_listening : (most : ℕ) (hub : Hub) (stream : CorkedWriter S) (bytes : Vec ℕ Global)
      (new : State S) (before after : List Event) → Passes before after []
      → Replies remaining contents denied (Head stream bytes) new
      → PassesTexts remaining most hub (Head stream bytes) new before after
  passes_listening most hub stream bytes new before after passes replies =
      (passes, fresh_head stream bytes new replies)

  -- ---- the reply to a head

  -- the answer to what was received and what one read took, and how it was replied to
  pub replies_head : {T E : Type 0} (stream now : CorkedWriter S) (bytes : Vec ℕ Global)
      (kept : Result T E) (whole items taken : List ℕ) (answer : Shake) (new : State S)
      → is_err kept ≡ false → whole ≡ items
      → items ≡ (if is_ok kept then bytes.items ++ taken else bytes.items)
      → Consumes (remaining (stream_of stream)) (remaining (stream_of now)) taken
      → AnswersHead whole answer → AnswersNoHead whole answer
      → RepliesTo contents denied (written contents now) answer new
      → Replies remaining contents denied (Head stream bytes) new
  replies_head stream now bytes kept whole items taken answer new fits is appended first head
      no_head replies =
      let same : whole ≡ bytes.items ++ taken =
      is ∙ extended kept bytes.items items taken fits appended in
      let left = remaining (stream_of stream) in
      let found : RepliesToHead contents denied bytes.items left new = record {
        taken = taken;
        rest = remaining (stream_of now);
        first = first;
        answer = answer;
        head = subst (λ b. AnswersHead b answer) same head;
        no_head = subst (λ b. AnswersNoHead b answer) same no_head;
        before = written contents now;
        replies = replies;
      } in
      if_replies new found
    where
      if_replies : {P : Type 0} (state : State S) → P → IfReplies state P
      if_replies (Replying other kept) p = p
      if_replies (Open socket s) p = p
      if_replies (Head other received) p = tt
      if_replies (Closing socket left) p = tt
      if_replies Gone p = tt

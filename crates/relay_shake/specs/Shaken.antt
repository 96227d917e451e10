-- The answer to the bytes received so far.
use Rattle.std.specs.Prelude.{◌≡◌, ◌⊎◌, ℕ, List, ◌++◌, drop, option_map, string_bytes}
use Rattle.httparse.specs.Grammar.{RequestHead, ReadsRequest, HasNoRequest, NeverHasRequest}
use Rattle.httparse.specs.Grammar.{MayBecomeRequest}
use Rattle.relay_shake.specs.declared.reading.TheConstants.{MAX_HEAD}
use Rattle.relay_shake.specs.Handshake.{Verdict, wait, accept, refuse, verdict_of, window}
use Rattle.relay_shake.specs.Handshake.{verdict_before_head}
use Rattle.relay_shake.specs.Replies.{accept_reply, refusal_of}
use Rattle.relay_shake.specs.declared.answer.Shake.{Shake}
use Rattle.relay_shake.specs.declared.answer.Shake.TheVariants.{More, Accept, Refuse}

-- an answer is the verdict, with each byte of its reply
abbrev pub Shows : Shake → Verdict → Type 0
Shows More wait = Unit {0}
Shows (Accept room access origin reply) (accept name asked named key) =
    (string_bytes room ≡ name) × (access ≡ asked) × (option_map string_bytes origin ≡ named)
    × (reply.items ≡ accept_reply key)
Shows (Refuse status reply) (refuse other) = (status ≡ other) × (reply.items ≡ refusal_of other)
Shows _ _ = ⊥

-- if the window begins with a head: the verdict on it and the bytes after it
abbrev pub AnswersHead : List ℕ → Shake → Type 0
AnswersHead bytes answer =
    (head : RequestHead) (rest : List ℕ) → ReadsRequest (window bytes) head rest
    → Shows answer (verdict_of head (rest ++ drop MAX_HEAD bytes))

-- if there is no head: the verdict before a head, only if one can still come or the bytes end in a
-- target; or 400, only if none can come
abbrev pub AnswersNoHead : List ℕ → Shake → Type 0
AnswersNoHead bytes answer =
    HasNoRequest (window bytes)
    → (MayBecomeRequest (window bytes) × Shows answer (verdict_before_head bytes))
    ⊎ (NeverHasRequest (window bytes) × Shows answer (refuse 400))

-- The results of the checks related to verdicts.
use Rattle.std.specs.Prelude.{◌≡◌, ℕ, Result, Ok, Err, IsTrue, option_copied}
use Rattle.relay_http_head.specs.declared.checks.Fault.{Fault}
use Rattle.relay_http_head.specs.declared.checks.Fault.TheVariants.{Refused, NoMemory}
use Rattle.relay_shake.specs.Handshake.{Verdict, accept, refuse}
use Rattle.relay_shake.specs.Replies.{is_refusal}
use Rattle.relay_shake.specs.declared.checks.Accepted.{Accepted}

-- the result agrees with the verdict, unless memory ran out
abbrev pub Judges : Result Accepted (Fault ℕ) → Verdict → Type 0
Judges (Ok accepted) verdict =
    verdict
    ≡ accept accepted.room.now accepted.access (option_copied accepted.origin) accepted.key.now
Judges (Err (Refused status)) verdict = verdict ≡ refuse status
Judges (Err NoMemory) verdict = Unit {0}

-- the status is one that has a reply
abbrev pub HasReply : Fault ℕ → Type 0
HasReply (Refused status) = IsTrue (is_refusal status)
HasReply NoMemory = Unit {0}
